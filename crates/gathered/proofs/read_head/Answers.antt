-- `gathered::read_head` meets its contract: each way out is a law of a section's head.
use mathlib.Core.Path.{◌≡◌, refl, sym, ap, ◌∙◌}
use Rattle.numbers.specs.Limits.{max_clock}
use Rattle.grammar.specs.Grammar as grammar
use Rattle.decoder.specs.ColumnedInner.{fields}
use Rattle.cells.specs.Cells.{place_in, state_in, given}
use Rattle.update.proofs.Laws.{in-line, within}
use Rattle.gathered.specs.Gathered.{Headed}
use Rattle.gathered.proofs.Heads.{client-within, no-count, no-client, again, no-clock, headed, was-there, is-new}
use Rattle.gathered.proofs.read_head.Goals as goal

pub returns-in_default : goal.returns-in_default
unfolding Headed
returns-in_default c = let a = c.args in
    let p = c.requires in
    let u = a.update.now in
    let w = a.w.now in
    let w₁ = c.read_var.new.w in
    let k : given w₁ c.read_var.result ≡ fields a.form u (grammar.number (grammar.up_to a.room)) (state_in w) = in-line a.form u a.room w w₁ c.read_var.result c.read_var.ensures.1 in
    let none = ap (given w₁) (sym c.in_default.is) ∙ k in
    (c.read_var.ensures.0, refl, rw c.why.ensures (λ n cs same. no-count a.form u w n cs a.room w₁ none))

pub returns-in_default-read_client : goal.returns-in_default-read_client
unfolding Headed
returns-in_default-read_client c = let a = c.args in
    let p = c.requires in
    let u = a.update.now in
    let w = a.w.now in
    let w₁ = c.read_var.new.w in
    let k : given w₁ c.read_var.result ≡ fields a.form u (grammar.number (grammar.up_to a.room)) (state_in w) = in-line a.form u a.room w w₁ c.read_var.result c.read_var.ensures.1 in
    let k₁ = ap (given w₁) (sym c.in-Some.is) ∙ k in
    let w₂ = c.read_client.new.w in
    let none = ap (given w₂) (sym c.in_default-read_client.is) ∙ c.read_client.ensures.1 in
    (c.read_client.ensures.0, refl, rw c.why-in_default-read_client.ensures (λ n cs same. no-client a.form u w n cs a.room w₁ _ k₁ w₂ none))

pub insert-new-requires : goal.insert-new-requires
insert-new-requires c = let a = c.args in
    let p = c.requires in
    (p.1, p.2, client-within a.form a.update.now _ c.read_client.new.w _ (ap (given c.read_client.new.w) (sym c.in-Some-read_client.is) ∙ c.read_client.ensures.1), p.3)

pub returns-then-not-new : goal.returns-then-not-new
unfolding Headed place_in
returns-then-not-new c = let a = c.args in
    let p = c.requires in
    let u = a.update.now in
    let w = a.w.now in
    let w₁ = c.read_var.new.w in
    let k : given w₁ c.read_var.result ≡ fields a.form u (grammar.number (grammar.up_to a.room)) (state_in w) = in-line a.form u a.room w w₁ c.read_var.result c.read_var.ensures.1 in
    let k₁ = ap (given w₁) (sym c.in-Some.is) ∙ k in
    let w₂ = c.read_client.new.w in
    let c₁ = ap (given w₂) (sym c.in-Some-read_client.is) ∙ c.read_client.ensures.1 in
    let there = was-there _ a.seen a.order.now c.insert-new.new.order c.insert-new.result c.insert-new.ensures.1 (c.if-not-new.true) in
    (c.read_client.ensures.0, c.insert-new.ensures.0, λ n cs same. again a.form u w n cs a.room w₁ _ k₁ w₂ _ c₁ (same _ ∙ there))

pub returns-in_default-read_var : goal.returns-in_default-read_var
unfolding Headed
returns-in_default-read_var c = let a = c.args in
    let p = c.requires in
    let u = a.update.now in
    let w = a.w.now in
    let w₁ = c.read_var.new.w in
    let k : given w₁ c.read_var.result ≡ fields a.form u (grammar.number (grammar.up_to a.room)) (state_in w) = in-line a.form u a.room w w₁ c.read_var.result c.read_var.ensures.1 in
    let k₁ = ap (given w₁) (sym c.in-Some.is) ∙ k in
    let w₂ = c.read_client.new.w in
    let c₁ = ap (given w₂) (sym c.in-Some-read_client.is) ∙ c.read_client.ensures.1 in
    let new = is-new _ a.seen a.order.now c.insert-new.new.order c.insert-new.result c.insert-new.ensures.1 (c.if-not-new.false) in
    let w₃ = c.read_var-2.new.w in
    let l : given w₃ c.read_var-2.result ≡ fields a.form u (grammar.number (grammar.up_to max_clock)) (state_in w₂) = in-line a.form u max_clock w₂ w₃ c.read_var-2.result c.read_var-2.ensures.1 in
    let none = ap (given w₃) (sym c.in_default-read_var.is) ∙ l in
    (c.read_var-2.ensures.0, c.insert-new.ensures.0, rw c.why-in_default-read_var.ensures (λ n cs same. no-clock a.form u w n cs a.room w₁ _ k₁ w₂ _ c₁ (same _ ∙ new.0) w₃ none))

pub returns : goal.returns
unfolding Headed
returns c = let a = c.args in
    let p = c.requires in
    let u = a.update.now in
    let w = a.w.now in
    let w₁ = c.read_var.new.w in
    let k : given w₁ c.read_var.result ≡ fields a.form u (grammar.number (grammar.up_to a.room)) (state_in w) = in-line a.form u a.room w w₁ c.read_var.result c.read_var.ensures.1 in
    let k₁ = ap (given w₁) (sym c.in-Some.is) ∙ k in
    let w₂ = c.read_client.new.w in
    let c₁ = ap (given w₂) (sym c.in-Some-read_client.is) ∙ c.read_client.ensures.1 in
    let new = is-new _ a.seen a.order.now c.insert-new.new.order c.insert-new.result c.insert-new.ensures.1 (c.if-not-new.false) in
    let w₃ = c.read_var-2.new.w in
    let l : given w₃ c.read_var-2.result ≡ fields a.form u (grammar.number (grammar.up_to max_clock)) (state_in w₂) = in-line a.form u max_clock w₂ w₃ c.read_var-2.result c.read_var-2.ensures.1 in
    let l₁ = ap (given w₃) (sym c.in-Some-read_var.is) ∙ l in (
      c.read_var-2.ensures.0,
      c.insert-new.ensures.0,
      record {
        told = λ n cs same. headed a.form u w n cs a.room w₁ _ k₁ w₂ _ c₁ (same _ ∙ new.0) w₃ _ l₁;
        few = within a.room u _ _ w₁ _ (ap (given w₁) (sym c.in-Some.is) ∙ c.read_var.ensures.1);
        low = within max_clock u _ _ w₃ _ (ap (given w₃) (sym c.in-Some-read_var.is) ∙ c.read_var-2.ensures.1);
        new = new.0;
        order = new.1;
      },
    )
