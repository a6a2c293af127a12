-- `update::read_section` meets its contract: each way out is a law of a section's head.
use native.Mathlib.Omega.{arith}
use mathlib.Core.Path.{◌≡◌, refl, sym, ap, ◌∙◌}
use lib.ListN.{length-set}
use Rattle.numbers.specs.Limits.{max_clock}
use Rattle.grammar.specs.Grammar as grammar
use Rattle.decoder.specs.ColumnedInner.{fields}
use Rattle.cells.specs.Cells.{place_in, state_in, given}
use Rattle.update.proofs.Laws.{in-line, within, refuses, goes_on, no-count, no-client, again, no-clock, headed, head-fine, head-less}
use Rattle.update.proofs.read_section.Goals as goal

pub returns-in_default : goal.returns-in_default
returns-in_default c = let a = c.args in
    let p = c.requires in
    let u = a.update.now in
    let m = a.memory.now in
    let s = a.s in
    let w₁ = c.read_var.new.w in
    let k : given w₁ c.read_var.result ≡ fields a.form u (grammar.number (grammar.up_to s.room)) (state_in a.w.now) = in-line a.form u s.room a.w.now w₁ c.read_var.result c.read_var.ensures.1 in
    let law = no-count a.form u m a.w.now s p.3 p.2 w₁ (ap (given w₁) (sym c.in_default.is) ∙ k) in
    rw c.why.ensures (refuses a.form u m a.w.now a.r.now s m w₁ a.r.now c.read_var.ensures.0 refl refl _ law)

pub returns-in_default-read_client : goal.returns-in_default-read_client
returns-in_default-read_client c = let a = c.args in
    let p = c.requires in
    let u = a.update.now in
    let m = a.memory.now in
    let s = a.s in
    let w₁ = c.read_var.new.w in
    let k : given w₁ c.read_var.result ≡ fields a.form u (grammar.number (grammar.up_to s.room)) (state_in a.w.now) = in-line a.form u s.room a.w.now w₁ c.read_var.result c.read_var.ensures.1 in
    let k₁ = ap (given w₁) (sym c.in-Some.is) ∙ k in
    let w₂ = c.read_client.new.w in
    let law = no-client a.form u m a.w.now s p.3 p.2 w₁ _ k₁ w₂ (ap (given w₂) (sym c.in_default-read_client.is) ∙ c.read_client.ensures.1) in
    rw c.why-in_default-read_client.ensures (refuses a.form u m a.w.now a.r.now s m w₂ a.r.now c.read_client.ensures.0 refl refl _ law)

pub returns-then-is_among : goal.returns-then-is_among
unfolding place_in
returns-then-is_among c = let a = c.args in
    let p = c.requires in
    let u = a.update.now in
    let m = a.memory.now in
    let s = a.s in
    let w₁ = c.read_var.new.w in
    let k : given w₁ c.read_var.result ≡ fields a.form u (grammar.number (grammar.up_to s.room)) (state_in a.w.now) = in-line a.form u s.room a.w.now w₁ c.read_var.result c.read_var.ensures.1 in
    let k₁ = ap (given w₁) (sym c.in-Some.is) ∙ k in
    let w₂ = c.read_client.new.w in
    let c₁ = ap (given w₂) (sym c.in-Some-read_client.is) ∙ c.read_client.ensures.1 in
    let law = again a.form u m a.w.now s p.3 p.2 w₁ _ k₁ w₂ _ c₁ (sym c.is_among.ensures ∙ c.if-is_among.true) in
    refuses a.form u m a.w.now a.r.now s m w₂ a.r.now c.read_client.ensures.0 refl refl _ law

pub returns-in_default-read_var : goal.returns-in_default-read_var
returns-in_default-read_var c = let a = c.args in
    let p = c.requires in
    let u = a.update.now in
    let m = a.memory.now in
    let s = a.s in
    let w₁ = c.read_var.new.w in
    let k : given w₁ c.read_var.result ≡ fields a.form u (grammar.number (grammar.up_to s.room)) (state_in a.w.now) = in-line a.form u s.room a.w.now w₁ c.read_var.result c.read_var.ensures.1 in
    let k₁ = ap (given w₁) (sym c.in-Some.is) ∙ k in
    let w₂ = c.read_client.new.w in
    let c₁ = ap (given w₂) (sym c.in-Some-read_client.is) ∙ c.read_client.ensures.1 in
    let new = sym c.is_among.ensures ∙ c.if-is_among.false in
    let w₃ = c.read_var-2.new.w in
    let l : given w₃ c.read_var-2.result ≡ fields a.form u (grammar.number (grammar.up_to max_clock)) (state_in w₂) = in-line a.form u max_clock w₂ w₃ c.read_var-2.result c.read_var-2.ensures.1 in
    let law = no-clock a.form u m a.w.now s p.3 p.2 w₁ _ k₁ w₂ _ c₁ new w₃ (ap (given w₃) (sym c.in_default-read_var.is) ∙ l) in
    rw c.why-in_default-read_var.ensures (refuses a.form u m a.w.now a.r.now s m w₃ a.r.now c.read_var-2.ensures.0 refl refl _ law)

pub offset_bounds-memory-seen : goal.offset_bounds-memory-seen
offset_bounds-memory-seen c = omega (arith, c.requires.1.seen, c.requires.2, c.well_formed.1.1.1.1.0)

pub bounds-memory-seen : goal.bounds-memory-seen
bounds-memory-seen c = omega (arith, c.requires.1.seen, c.requires.2)

pub overflow_sub-head : goal.overflow_sub-head
overflow_sub-head c = omega (arith, c.requires.2)

pub overflow_sub-head-2 : goal.overflow_sub-head-2
overflow_sub-head-2 c = let a = c.args in
    let e = within a.s.room a.update.now _ _ _ _ (ap (given c.read_var.new.w) (sym c.in-Some.is) ∙ c.read_var.ensures.1) in
    omega (arith, e)

pub overflow_add-head : goal.overflow_add-head
overflow_add-head c = omega (arith, c.requires.1.seen, c.requires.2, c.well_formed.1.1.1.1.0.0)

pub returns : goal.returns
returns c = let a = c.args in
    let p = c.requires in
    let u = a.update.now in
    let m = a.memory.now in
    let s = a.s in
    let w₁ = c.read_var.new.w in
    let k : given w₁ c.read_var.result ≡ fields a.form u (grammar.number (grammar.up_to s.room)) (state_in a.w.now) = in-line a.form u s.room a.w.now w₁ c.read_var.result c.read_var.ensures.1 in
    let k₁ = ap (given w₁) (sym c.in-Some.is) ∙ k in
    let w₂ = c.read_client.new.w in
    let c₁ = ap (given w₂) (sym c.in-Some-read_client.is) ∙ c.read_client.ensures.1 in
    let new = sym c.is_among.ensures ∙ c.if-is_among.false in
    let w₃ = c.read_var-2.new.w in
    let l : given w₃ c.read_var-2.result ≡ fields a.form u (grammar.number (grammar.up_to max_clock)) (state_in w₂) = in-line a.form u max_clock w₂ w₃ c.read_var-2.result c.read_var-2.ensures.1 in
    let l₁ = ap (given w₃) (sym c.in-Some-read_var.is) ∙ l in
    let few = within s.room u _ _ w₁ _ (ap (given w₁) (sym c.in-Some.is) ∙ c.read_var.ensures.1) in
    let low = within max_clock u _ _ w₃ _ (ap (given w₃) (sym c.in-Some-read_var.is) ∙ c.read_var-2.ensures.1) in
    goes_on a.form u m a.w.now a.r.now s _ w₃ a.r.now c.read_var-2.ensures.0 (length-set m s.seen c.in-Some-read_client.client) refl _
    (headed a.form u m a.w.now s p.3 p.2 w₁ _ k₁ w₂ _ c₁ new w₃ _ l₁ p.1)
    (head-fine a.form u m a.w.now s p.3 p.2 w₁ _ k₁ w₂ _ c₁ new w₃ _ l₁ p.1 few low)
    (head-less a.form u m a.w.now s p.3 p.2 w₁ _ k₁ w₂ _ c₁ new w₃ _ l₁ p.1 few low)
