-- `write_type` meets its contract: a type number, and the node name of a type that has one.
use mathlib.Core.Path.{sym, ◌∙◌}
use mathlib.Core.List.{[], ◌∷◌}
use Rattle.tokens.specs.Tokens.{types}
use Rattle.tokens.specs.TokensInner.{type_number}
use Rattle.tokens.proofs.Rooms.{room-same, room-later, room-is}
use Rattle.marked.specs.Marked.{mark}
use Rattle.tokens.proofs.Keyed.{aliased-same, wrote-keys, wrote-keys-then, wrote-keys-is}
use Rattle.marked.proofs.Marked.{type-named, type-plain, one_field}
use Rattle.marked.proofs.write_type.Goals as goal

pub write_key-requires : goal.write_key-requires
write_key-requires c = let p8 = c in
    let p15 = c in
    let a = p15.args in
    let b = a.b in (
      aliased-same a.update.now a.lanes.now c.write_type-typed.new.lanes c.write_type-typed.ensures.keys c.write_type-typed.ensures.tidy p15.requires.0,
      room-same c.write_type-typed.auto.lanes (room-later (type_number b.type_number ∷ []) (mark a.update.now b.mark ∷ [])
          (room-is (type-named a.update.now b (sym c.is_named.ensures ∙ c.if-is_named.true)) p15.requires.1)),
    )

pub returns-then-is_named : goal.returns-then-is_named
returns-then-is_named c = let p4 = c in
    let p7 = c in
    let p8 = c in
    let p13 = c in
    let p20 = c in
    let a = p20.args in
    wrote-keys-is (type-named a.update.now a.b (sym p8.is_named.ensures ∙ p7.if-is_named.true))
    (wrote-keys-then (wrote-keys (one_field types a.b.type_number) p13.write_type-typed.ensures) p4.write_key.ensures)

pub returns : goal.returns
returns c = let p1 = c in
    let p6 = c in
    let p13 = c in
    let a = p13.args in
    wrote-keys-is (type-plain a.update.now a.b (sym p1.is_named.ensures ∙ c.if-is_named.false))
    (wrote-keys (one_field types a.b.type_number) p6.write_type-typed.ensures)
