-- What the steps write of blocks and ranges that were read, against the entries of a vector, is the diff.
use Prim.Native.Nat.{ℕ, ◌*◌, ◌^◌, ◌≤◌, ◌<◌}
use mathlib.Core.Path.{◌≡◌, refl, sym, ap, ap₂, ◌∙◌}
use mathlib.Core.Bool.{Bool, true, false}
use mathlib.Core.List.{List, []}
use native.Mathlib.Omega.{arith}
use lib.Dec.{eqb}
use lib.ListN.{length, take, length-replicate}
use borrow.Author.Tests.{eqb-true, eqb-false}
use Rattle.numbers.specs.Number.{pick}
use Rattle.numbers.specs.Limits.{max_update, max_clients, max_blocks}
use Rattle.numbers.specs.Output.{padded, written, put}
use Rattle.numbers.specs.OutputInner.{refusal}
use Rattle.numbers.proofs.Output.{verdict-why, refused-answer, refused-bytes}
use Rattle.block.specs.declared.Block.{Block}
use Rattle.ranges.specs.Ranges.{Range}
use Rattle.vector.specs.Vector.{Entry}
use Rattle.readings.specs.Sound.{All}
use Rattle.readings.specs.SoundInner.{Sound, Ordered}
use Rattle.readings.specs.Groups.{groups}
use Rattle.parts.specs.Brim.{brim}
use Rattle.tokens.specs.Tokens.{Token, keys, taken_all}
use Rattle.tokens.specs.Keys.{many_keys}
use Rattle.tokens.specs.KeysInner.{spelled}
use Rattle.tokens.specs.Bytes.{bytes_of, near}
use Rattle.tokens.proofs.Fitting.{size_all, legal_all}
use Rattle.kept.specs.Kept.{client_of, sections_of}
use Rattle.kept.specs.Cut.{any_torn, any_format}
use Rattle.kept.proofs.SectionsTorn.{plan-formats}
use Rattle.records.specs.Records.{sections_tokens, delete_tokens, update_tokens}
use Rattle.records.proofs.Deletes.{deletes-plain}
use Rattle.encoder.specs.Passes.{outcome_of, outcome_for, words_for}
use Rattle.passes.specs.Forms.{far_for}
use Rattle.passes.specs.Measures.{measured_for}
use Rattle.passes.proofs.Plain.{Plain, var-plain, plain-many}
use Rattle.passes.proofs.Wholes.{IsForm}
use Rattle.writing.specs.Diff.{diff_tokens, diff_bytes, turned_format, diff_why}
use Rattle.writing.specs.Writing.{Job, job, planned_in, planned_answer, planned_out, no_plan, job_for, turned, why_for, kept_why, kept_answer, kept_out}
use Rattle.writing.proofs.Rows.{torn-is, planned-are, tokens-are}
use Rattle.writing.proofs.Marks.{many-same, keys-are, sections-bare}
use Rattle.writing.proofs.Planned.{job_tokens, far-planned, answer-planned, out-planned}

-- ---- blocks kept against the entries of a vector

module _ (u : List ℕ) (v : List Entry) (bs rows : List Block) (rs : List Range) (from t : ℕ) (form : IsForm t) (same : take (length bs) rows ≡ bs)
    (fits : length bs ≤ length rows) (ordered : Ordered bs) (sound : All (Sound u) bs) (few : length bs ≤ max_blocks)
    (clients : length (groups client_of bs) ≤ max_clients) (short : length u ≤ max_update) where
  below : length u < brim
  below = omega (arith, short)

  brimmed : length bs ≤ brim
  brimmed = omega (arith, few)

  room : 5 * length (groups client_of bs) ≤ length no_plan
  room = omega (arith, clients, length-replicate {A = ℕ} 320 0)

  abbrev planned : Job
  planned = job u rows (words_for u v no_plan bs) (outcome_for u v no_plan bs).sections rs

  abbrev found : Job
  found = job_for u v rows (length bs) rs

  found-torn : (outcome_for u v no_plan (take (length bs) rows)).torn ≡ any_torn u (sections_of v bs)
  found-torn = ap (λ (l : List Block). (outcome_for u v no_plan l).torn) same ∙ torn-is u v no_plan bs below ordered sound brimmed room

  formats-are : (outcome_for u v no_plan bs).formats ≡ any_format (sections_of v bs)
  unfolding outcome_for outcome_of
  formats-are = plan-formats u v no_plan bs ordered brimmed room

  found-formats : (outcome_for u v no_plan (take (length bs) rows)).formats ≡ any_format (sections_of v bs)
  found-formats = ap (λ (l : List Block). (outcome_for u v no_plan l).formats) same ∙ formats-are

  planned-is : job_for u v rows (length bs) rs ≡ planned
  planned-is = ap (λ (l : List Block). job u rows (words_for u v no_plan l) (outcome_for u v no_plan l).sections rs) same

  abbrev ts : List Token
  ts = diff_tokens t u v bs rs

  -- its keys, torn or not
  many_is : many_keys t (planned_in found) ≡ many_keys t ts
  unfolding diff_tokens update_tokens
  many_is =
      let ss = sections_of v bs in
      ap (λ (j : Job). many_keys t (planned_in j)) planned-is
      ∙ many-same t (planned_in planned) (sections_tokens u ss) (keys-are u v no_plan bs below ordered sound brimmed room rows same fits)
      ∙ sym (plain-many t (length ss) (sections_tokens u ss) (delete_tokens t rs) (deletes-plain Plain var-plain t rs))

  -- what the job writes, where nothing is torn
  pub written_is : any_torn u (sections_of v bs) ≡ false → job_tokens t (job_for u v rows (length bs) rs) ≡ diff_tokens t u v bs rs
  unfolding diff_tokens
  written_is untorn =
      ap (job_tokens t) planned-is ∙ tokens-are u v no_plan bs below ordered sound brimmed room rows t rs same fits untorn

  bare-is : any_torn u (sections_of v bs) ≡ false → taken_all keys (planned_in found) ≡ []
  bare-is untorn =
      ap (λ (j : Job). taken_all keys (planned_in j)) planned-is
      ∙ ap (taken_all keys) (planned-are u v no_plan bs below ordered sound brimmed room rows same fits untorn) ∙ sections-bare u (sections_of v bs)

  module _ (legal : any_torn u (sections_of v bs) ≡ false → legal_all (update_tokens t u (sections_of v bs) rs) ≡ true)
      (low : any_torn u (sections_of v bs) ≡ false → size_all (update_tokens t u (sections_of v bs) rs) < 2 ^ 54) where
    lawful : any_torn u (sections_of v bs) ≡ false → legal_all (job_tokens t found) ≡ true
    unfolding diff_tokens
    lawful e = ap legal_all (written_is e) ∙ legal e

    small : any_torn u (sections_of v bs) ≡ false → size_all (job_tokens t found) < 2 ^ 54
    unfolding diff_tokens
    small e = omega (arith, low e, ap size_all (written_is e))

    far-diff : any_torn u (sections_of v bs) ≡ false → far_for t (spelled t [] (planned_in found)) ≡ pick (near t ts) false true
    far-diff e =
        far-planned found t form (lawful e) (small e) (bare-is e) ∙ ap (λ (l : List Token). pick (near t l) false true) (written_is e)

    -- ---- why there is none

    why-is : kept_why u v from t rows (length bs) rs ≡ diff_why from t u v bs rs
    unfolding why_for measured_for diff_why turned turned_format
    why-is = rw (many_is, found-torn, found-formats) (go (many_keys t ts) (any_torn u (sections_of v bs)) refl (pick (eqb from t) false (any_format (sections_of v bs))))
      where
        near-far : (b : Bool) → ◌≡◌ {A = ℕ} (pick (pick b false true) 13 0) (pick b 0 13)
        near-far true = refl
        near-far false = refl

        go : (m x : Bool) → any_torn u (sections_of v bs) ≡ x → (f : Bool)
            → ◌≡◌ {A = ℕ} (pick m 3 (pick x 9 (pick f 19 (pick (far_for t (spelled t [] (planned_in found))) 13 0)))) (pick m 3 (pick x 9 (pick f 19 (pick (near t ts) 0 13))))
        go true x e f = refl
        go false true e f = refl
        go false false e true = refl
        go false false e false = rw (far-diff e) (near-far (near t ts))

    -- then nothing is torn
    none-torn : diff_why from t u v bs rs ≡ 0 → any_torn u (sections_of v bs) ≡ false
    unfolding diff_why
    none-torn h = go (many_keys t ts) (any_torn u (sections_of v bs)) (turned_format from t (sections_of v bs)) (near t ts) h
      where
        go : (m x f n : Bool) → ◌≡◌ {A = ℕ} (pick m 3 (pick x 9 (pick f 19 (pick n 0 13)))) 0 → x ≡ false
        go true x f n e = absurd (omega (arith, e))
        go false true f n e = absurd (omega (arith, e))
        go false false f n e = refl

    abbrev why : ℕ
    why = diff_why from t u v bs rs

    abbrev bytes : List ℕ
    bytes = diff_bytes t u v bs rs

    -- ---- what is written

    pub answer-is : (size : ℕ) → kept_answer u v from t rows (length bs) rs size ≡ written (diff_why from t u v bs rs) size (diff_bytes t u v bs rs)
    unfolding kept_answer diff_bytes
    answer-is size = rw why-is (go (eqb why 0) refl)
      where
        done-so : why ≡ 0 → planned_answer found t size ≡ written why size bytes
        done-so h =
            let e = none-torn h in
            answer-planned found t form (lawful e) (small e) size
            ∙ ap₂ (λ (n : ℕ) (l : List Token). written n size (bytes_of t l)) (sym h) (written_is e)

        go : (x : Bool) → eqb why 0 ≡ x → pick x (planned_answer found t size) (refusal why) ≡ written why size bytes
        go true e = done-so (eqb-true why 0 e)
        go false e = let h = eqb-false why 0 e in refused-answer why size bytes why (verdict-why why size bytes h) h

    pub out-is : (out : List ℕ) → kept_out u v from t rows (length bs) rs out ≡ put (diff_why from t u v bs rs) (length out) (diff_bytes t u v bs rs)
    unfolding kept_out diff_bytes
    out-is out = rw why-is (go (eqb why 0) refl)
      where
        done-so : why ≡ 0 → planned_out found t out ≡ put why (length out) bytes
        done-so h =
            let e = none-torn h in
            out-planned found t form (lawful e) (small e) out
            ∙ ap₂ (λ (n : ℕ) (l : List Token). put n (length out) (bytes_of t l)) (sym h) (written_is e)

        go : (x : Bool) → eqb why 0 ≡ x → pick x (planned_out found t out) (padded (length out) []) ≡ put why (length out) bytes
        go true e = done-so (eqb-true why 0 e)
        go false e = let h = eqb-false why 0 e in refused-bytes why (length out) bytes why (verdict-why why (length out) bytes h) h
