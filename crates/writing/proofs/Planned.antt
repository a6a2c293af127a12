-- Planned rows in a form: the answer and the bytes are those of a writer of the form's bytes.
use Prim.Native.Nat.{ℕ, ◌^◌, ◌≤◌, ◌<◌}
use mathlib.Core.Path.{◌≡◌, refl, sym, ap, ◌∙◌}
use mathlib.Core.Bool.{Bool, true, false}
use mathlib.Core.List.{List, [], ◌∷◌, ◌++◌}
use native.Mathlib.Nat.{zero-add}
use native.Mathlib.Omega.{arith}
use lib.Dec.{ltb}
use lib.ListN.{length, take, replicate}
use lib.Seq.{sets}
use borrow.Author.Tests.{ltb-true, ltb-false, lt-leb, le-leb}
use Rattle.numbers.specs.Number.{pick}
use Rattle.numbers.specs.Output.{padded, verdict, written, put}
use Rattle.numbers.specs.OutputInner.{refusal, done}
use Rattle.numbers.proofs.Output.{take-sets, refused-answer, refused-bytes, done-answer, done-bytes}
use Rattle.readings.specs.Sound.{All}
use Rattle.tokens.specs.Tokens.{Token, var, keys, taken_all}
use Rattle.tokens.specs.Keys.{many_keys}
use Rattle.tokens.specs.KeysInner.{spelled}
use Rattle.tokens.specs.Bytes.{bytes_of, near}
use Rattle.tokens.proofs.Fitting.{size_all, legal_all}
use Rattle.records.proofs.Deletes.{deletes-plain}
use Rattle.passes.specs.Forms.{far_for}
use Rattle.passes.proofs.Plain.{Plain, var-plain, plain-many}
use Rattle.passes.proofs.Wholes.{IsForm, far-is, end_is, out-is}
use Rattle.writing.specs.Writing.{Job, planned_in, deletes_in, end_in, bytes_in, planned_answer, planned_out}

-- all tokens of a job
abbrev pub job_tokens : ℕ → Job → List Token
job_tokens form j = var j.sections ∷ (planned_in j ++ deletes_in form j)

stored : (out b : List ℕ) → length b ≤ length out → take (length b) (sets out 0 b) ≡ b
stored out b h = ap (λ (n : ℕ). take n (sets out 0 b)) (sym (zero-add (length b))) ∙ take-sets out b 0 (omega (arith, h))

module _ (j : Job) (f : ℕ) where
  abbrev ds : List Token
  ds = deletes_in f j

  plain : All Plain ds
  plain = deletes-plain Plain var-plain f j.ranges

  -- a delete set crowds none
  pub many-planned : many_keys f (planned_in j) ≡ many_keys f (job_tokens f j)
  many-planned = sym (plain-many f j.sections (planned_in j) ds plain)

  module _ (form : IsForm f) (legal : legal_all (job_tokens f j) ≡ true) (few : size_all (job_tokens f j) < 2 ^ 54) where
    abbrev bytes : List ℕ
    bytes = bytes_of f (job_tokens f j)

    pub far-planned : taken_all keys (planned_in j) ≡ [] → far_for f (spelled f [] (planned_in j)) ≡ pick (near f (job_tokens f j)) false true
    far-planned none = far-is f form j.sections (planned_in j) ds plain legal few (replicate 10 0) none

    end-at : end_in j f ≡ length bytes
    end-at = end_is f form j.sections (planned_in j) ds plain legal few (replicate 10 0)

    -- the verdict of a writer with room, and without
    fits-so : (room : ℕ) → ltb room (length bytes) ≡ false → verdict 0 room bytes ≡ 0
    unfolding verdict
    fits-so room e = rw (le-leb (length bytes) room (ltb-false room (length bytes) e))

    lacks : (room : ℕ) → ltb room (length bytes) ≡ true → verdict 0 room bytes ≡ 10
    unfolding verdict
    lacks room e = rw (lt-leb (length bytes) room (ltb-true room (length bytes) e))

    pub answer-planned : (room : ℕ) → planned_answer j f room ≡ written 0 room (bytes_of f (job_tokens f j))
    unfolding planned_answer
    answer-planned room = rw end-at (go (ltb room (length bytes)) refl)
      where
        go : (x : Bool) → ltb room (length bytes) ≡ x → pick x (refusal 10) (done (length bytes)) ≡ written 0 room bytes
        go true e = refused-answer 0 room bytes 10 (lacks room e) (λ z. omega (arith, z))
        go false e = done-answer 0 room bytes (fits-so room e)

    pub out-planned : (out : List ℕ) → planned_out j f out ≡ put 0 (length out) (bytes_of f (job_tokens f j))
    unfolding planned_out
    out-planned out = rw end-at (go (ltb (length out) (length bytes)) refl)
      where
        laid-is : length bytes ≤ length out → take (length bytes) (bytes_in j f out) ≡ bytes
        laid-is h = ap (take (length bytes)) (out-is f form j.sections (planned_in j) ds plain legal few (replicate 10 0) out h) ∙ stored out bytes h

        go : (x : Bool) → ltb (length out) (length bytes) ≡ x
            → padded (length out) (pick x [] (take (length bytes) (bytes_in j f out))) ≡ put 0 (length out) bytes
        go true e = refused-bytes 0 (length out) bytes 10 (lacks (length out) e) (λ z. omega (arith, z))
        go false e =
            ap (padded (length out)) (laid-is (ltb-false (length out) (length bytes) e)) ∙ done-bytes 0 (length out) bytes (fits-so (length out) e)
