-- `text::count_units` meets its contract: what is behind plain bytes is whole exactly if all is, and then the rule counts its units.
use Prim.Native.Nat.{◌+◌, ◌-◌}
use mathlib.Core.Path.{◌≡◌, sym, ap, ◌∙◌}
use native.Mathlib.Omega.{arith}
use borrow.Author.Rules.{rules}
use lib.Seq.{slice, length-slice}
use Rattle.text.specs.Utf8.{settled, well_formed, units_of, counted_in}
use Rattle.text.proofs.Laws.{legal-start, units-le-bytes}
use Rattle.text.proofs.Plain.{behind-check}
use Rattle.text.proofs.Rule.{behind-rule}
use Rattle.text.proofs.count_units.Goals as goal
use Rattle.text.proofs.count_units.Goals.{After-is_settled, After-units_by_rule-rest}

-- the answer to whether the rest is whole
rest-whole : (c : After-is_settled) → let k = c in
    c.is_settled.result ≡ well_formed (slice c.plain_to-at.result k.args.to k.args.s.now)
unfolding well_formed
rest-whole c = c.is_settled.ensures ∙ ap settled c.feed-st.ensures.0

-- is that to whether all is
all_whole : (c : After-is_settled) → let k = c in
    c.is_settled.result ≡ well_formed (slice k.args.from k.args.to k.args.s.now)
all_whole c =
    let k = c in
    let p = c.plain_to-at.ensures in
    rest-whole c ∙ behind-check k.args.s.now k.args.from c.plain_to-at.result k.args.to p.0 p.1 k.requires.1 p.2

-- if it is, the plain bytes and the count of the rest are all units
all-units : (c : After-units_by_rule-rest) → let a = c in let k = c in
    a.plain_to-at.result - k.args.from + c.units_by_rule-rest.result ≡ units_of (slice k.args.from k.args.to k.args.s.now)
all-units c =
    let a = c in
    let k = c in
    let p = a.plain_to-at.ensures in
    let whole = sym (rest-whole (record { before = c.before.before.before; type_inv = record { s = c.type_inv.s } })) ∙ c.if-is_settled.true in
    ap (λ n. a.plain_to-at.result - k.args.from + n) c.units_by_rule-rest.ensures
    ∙ behind-rule k.args.s.now k.args.from a.plain_to-at.result k.args.to p.0 p.1 k.requires.1 p.2 whole

pub feed-st-requires : goal.feed-st-requires
feed-st-requires c = (search rules, search rules, legal-start)

pub overflow_add-n : goal.overflow_add-n
overflow_add-n c = let k = c in
    let s = slice k.args.from k.args.to k.args.s.now in
    omega (arith, all-units c, units-le-bytes s, length-slice k.args.from k.args.to k.args.s.now k.requires.1)

pub returns-then-is_settled : goal.returns-then-is_settled
unfolding counted_in
returns-then-is_settled c = rw (← all_whole (goal.at.returns-then-is_settled c).After-is_settled, c.if-is_settled.true, ← all-units c)

pub returns : goal.returns
unfolding counted_in
returns c = rw (← all_whole (goal.at.returns c).After-is_settled, c.if-is_settled.false)
