-- `vector::read_state_vector` meets its contract, by the ways that reading the entries ends.
use native.Mathlib.Omega.{arith}
use mathlib.Core.Path.{sym, ap, ◌∙◌}
use lib.ListN.{length}
use Rattle.vector.specs.Vector.{vector_of}
use Rattle.vector.specs.VectorInner.{kept}
use Rattle.vector.proofs.Laws.{refused-answer, read_count, read_short, read_done, joined-padded}
use Rattle.vector.proofs.Clients.{vector-most}
use Rattle.vector.proofs.read_state_vector.Goals as goal

pub returns-in-Err : goal.returns-in-Err
returns-in-Err c = let a = c.args in
    let q = refused-answer (vector_of a.vector.now) (length a.out.now) _ (sym c.read_entries.ensures.0 ∙ c.in-Err.is) in
    let r = c.refuse.ensures in
    (r.0 ∙ sym q.0, r.1 ∙ sym q.1)

pub overflow_mul-words : goal.overflow_mul-words
overflow_mul-words c = let v = c.args.vector.now in
    let m = read_count (vector_of v) _ (sym c.read_entries.ensures.0 ∙ c.in-Ok.is) in
    omega (arith, m.0, vector-most v)

pub returns-then-out-words : goal.returns-then-out-words
returns-then-out-words c = let a = c.args in
    let q = read_short (vector_of a.vector.now) (length a.out.now) _ (sym c.read_entries.ensures.0 ∙ c.in-Ok.is) (omega arith) in
    let r = c.refuse-then-out-words.ensures in
    (r.0 ∙ sym q.0, r.1 ∙ sym q.1)

pub put_words-requires : goal.put_words-requires
put_words-requires c = let v = c.args.vector.now in
    let m = read_count (vector_of v) _ (sym c.read_entries.ensures.0 ∙ c.in-Ok.is) in
    (omega arith, omega (arith, m.0, vector-most v), omega (arith, m.0, vector-most v))

pub returns : goal.returns
returns c = let a = c.args in
    let c' = vector_of a.vector.now in
    let e = c.read_entries.ensures in
    let told = sym e.0 ∙ c.in-Ok.is in
    let q = read_done c' (length a.out.now) _ told (omega arith) in
    let m = read_count c' _ told in
    let n = m.0 ∙ sym (ap length m.1) in
    (sym q.0, c.put_words.ensures ∙ rw (e.1, e.2, joined-padded (kept c') _ _ _ n) (sym q.1))
