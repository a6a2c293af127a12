-- That what is put down is what has always been: what a put is of a token, and that each lane of tokens is a column of puts.
use Prim.Native.Nat.{ℕ, ◌+◌, ◌-◌, ◌*◌, min}
use mathlib.Core.Path.{◌≡◌, refl, sym, ap, ◌∙◌}
use mathlib.Core.Bool.{Bool, true, false}
use mathlib.Core.List.{List, [], ◌∷◌, ◌++◌}
use native.Mathlib.Omega.{arith}
use lib.Dec.{eqb}
use borrow.Author.Tests.{eqb-true, eq-eqb, eqb-false, ne_eqb}
use Rattle.numbers.specs.Number.{unsigned}
use Rattle.runs.specs.declared.ColumnKind.{ColumnKind}
use Rattle.runs.specs.declared.ColumnKind.TheVariants.{Number, Difference, Byte}
use Rattle.runs.specs.Runs.{column_of}
use Rattle.tokens.specs.Tokens as tokens
use Rattle.tokens.specs.Tokens.{Token, field, taken, taken_all, inlined, column_in, lane}
use Rattle.tokens.specs.Bytes as tokens-bytes
use Rattle.meaning_written.specs.Columns.{column}
use Rattle.meaning_written.specs.Between.{kind_of}
use Rattle.meaning_written.specs.Diff.{each, Put, number, text, key, rest, plain, led, in_line, values_in, text_in, rest_in, form2}
use Rattle.meaning_written.proofs.Columns.{column-same}
use Rattle.meaning_written.proofs.Kept.{alike}

-- ---- the lane of a column: one further from that of texts on, whose bytes have a lane too; what is no column's number has none of these lanes

unfoldable pub lane_of : ℕ → ℕ
lane_of k = k + min 1 (k - 4) + 2 * (k - 8)

no-lane : (k : ℕ) → (eqb (lane_of k) 5 ≡ false) × (eqb (lane_of k) 10 ≡ false) × (eqb (lane_of k) 11 ≡ false)
unfolding lane_of
no-lane k = (ne_eqb (lane_of k) 5 (λ e. omega arith), ne_eqb (lane_of k) 10 (λ e. omega arith), ne_eqb (lane_of k) 11 (λ e. omega arith))

lane-is : (j k : ℕ) → eqb (lane_of j) (lane_of k) ≡ eqb j k
unfolding lane_of
lane-is j k = go (eqb j k) refl
  where
    go : (x : Bool) → eqb j k ≡ x → eqb (lane_of j) (lane_of k) ≡ x
    go true e = eq-eqb (lane_of j) (lane_of k) (ap lane_of (eqb-true j k e))
    go false e = ne_eqb (lane_of j) (lane_of k) (λ f. eqb-false j k e (omega arith))

-- the lanes of units and of infos
units-lane : (k : ℕ) → eqb (lane_of k) 6 ≡ eqb k 5
unfolding lane_of
units-lane k = lane-is k 5

info-lane : (k : ℕ) → eqb (lane_of k) 4 ≡ eqb k 4
unfolding lane_of
info-lane k = lane-is k 4

-- whichever side it stands on
turned : (n k : ℕ) → eqb (lane_of k) n ≡ false → eqb n (lane_of k) ≡ false
turned n k e = ne_eqb n (lane_of k) (λ f. eqb-false (lane_of k) n e (sym f))

-- ---- tokens and puts

pub data Is : Token → Put → Type 0 where
  a-number : (k v : ℕ) → Is (field (lane_of k) v) (number k v)
  a-text : (b : List ℕ) (n : ℕ) → Is (tokens.text b n) (text b n)
  a_key : (b : List ℕ) (n : ℕ) → Is (tokens.key b n) (key b n)
  a-var : (v : ℕ) → Is (tokens.var v) (plain (unsigned v))
  a-buf : (b : List ℕ) → Is (tokens.buf b) (plain (led b))
  a-value : (b : List ℕ) → Is (tokens.value b) (rest (led b) b)
  some-values : (b : List ℕ) → Is (tokens.values b) (plain b)

pub data Are : List Token → List Put → Type 0 where
  none : Are [] []
  more : {t : Token} {p : Put} {ts : List Token} {ps : List Put} → Is t p → Are ts ps → Are (t ∷ ts) (p ∷ ps)

pub append : {ts us : List Token} {ps qs : List Put} → Are ts ps → Are us qs → Are (ts ++ us) (ps ++ qs)
append none s = s
append (more i r) s = more i (append r s)

-- ---- what a lane takes

taken-values : (k : ℕ) {t : Token} {p : Put} → Is t p → taken (lane_of k) t ≡ values_in k p
unfolding taken values_in
taken-values k (a-number j v) = rw ((no-lane k).2, lane-is k j) (alike (eqb k j) refl refl)
taken-values k (a-text b n) = rw ((no-lane k).2, (no-lane k).0, units-lane k) (alike (eqb k 5) refl refl)
taken-values k (a_key b n) = rw (no-lane k).2
taken-values k (a-var v) = rw ((no-lane k).2, (no-lane k).1)
taken-values k (a-buf b) = rw ((no-lane k).2, (no-lane k).1)
taken-values k (a-value b) = rw ((no-lane k).2, (no-lane k).1)
taken-values k (some-values b) = rw ((no-lane k).2, (no-lane k).1)

taken-text : {t : Token} {p : Put} → Is t p → taken tokens.texts t ≡ text_in p
unfolding taken text_in
taken-text (a-number j v) = rw (turned 5 j (no-lane j).0)
taken-text (a-text b n) = refl
taken-text (a_key b n) = refl
taken-text (a-var v) = refl
taken-text (a-buf b) = refl
taken-text (a-value b) = refl
taken-text (some-values b) = refl

taken-rest : {t : Token} {p : Put} → Is t p → taken tokens.rest t ≡ rest_in p
unfolding taken rest_in
taken-rest (a-number j v) = rw (turned 10 j (no-lane j).1)
taken-rest (a-text b n) = refl
taken-rest (a_key b n) = refl
taken-rest (a-var v) = refl
taken-rest (a-buf b) = refl
taken-rest (a-value b) = refl
taken-rest (some-values b) = refl

taken-line : {t : Token} {p : Put} → Is t p → taken tokens.whole t ≡ in_line p
unfolding taken inlined in_line
taken-line (a-number j v) = rw (info-lane j) (alike (eqb j 4) refl refl)
taken-line (a-text b n) = refl
taken-line (a_key b n) = refl
taken-line (a-var v) = refl
taken-line (a-buf b) = refl
taken-line (a-value b) = refl
taken-line (some-values b) = refl

lane-same : (k : ℕ) (f : Put → List ℕ) {ts : List Token} {ps : List Put} → ((t : Token) (p : Put) → Is t p → taken k t ≡ f p) → Are ts ps
    → taken_all k ts ≡ each f ps
unfolding taken_all each
lane-same k f same none = refl
lane-same k f same (more {t} {p} i r) = rw (same t p i, lane-same k f same r)

pub values_same : (k : ℕ) {ts : List Token} {ps : List Put} → Are ts ps → taken_all (lane_of k) ts ≡ each (values_in k) ps
values_same k r = lane-same (lane_of k) (values_in k) (λ t p i. taken-values k i) r

-- ---- the bytes

pub form1-same : {ts : List Token} {ps : List Put} → Are ts ps → tokens-bytes.form1 ts ≡ each in_line ps
unfolding tokens-bytes.form1 lane tokens.in_line
form1-same r = lane-same tokens.whole in_line (λ t p i. taken-line i) r

column-in : (kind : ColumnKind) (k : ℕ) {ts : List Token} {ps : List Put} → Are ts ps
    → column_of kind (taken_all (lane_of k) ts) ≡ column (kind_of kind) (each (values_in k) ps)
column-in kind k {ts} r = column-same kind (taken_all (lane_of k) ts) ∙ ap (column (kind_of kind)) (values_same k r)

pub form2-same : {ts : List Token} {ps : List Put} → Are ts ps → tokens-bytes.form2 ts ≡ form2 ps
unfolding tokens-bytes.form2 lane tokens.in_line column_in form2 kind_of lane_of
form2-same r =
    rw (
      column-in Difference 0 r,
      column-in Number 1 r,
      column-in Difference 2 r,
      column-in Difference 3 r,
      column-in Byte 4 r,
      lane-same tokens.texts text_in (λ t p i. taken-text i) r,
      column-in Number 5 r,
      column-in Byte 6 r,
      column-in Number 7 r,
      column-in Number 8 r,
      lane-same tokens.rest rest_in (λ t p i. taken-rest i) r,
    )
