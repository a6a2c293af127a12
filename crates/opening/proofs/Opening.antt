-- Form 2 opened: what is cut so far is in the words, what is still to come is the rest of the grammar; then the text is opened.
use Rattle.std.specs.Prelude.{Option, Some, None}
use Prim.Native.Nat.{ℕ, suc, ◌+◌, ◌*◌, ◌-◌, ◌≤◌, ◌<◌}
use mathlib.Core.Path.{◌≡◌, refl, sym, ap, subst, ◌∙◌}
use mathlib.Core.Logic.{◌≢◌}
use mathlib.Core.List.{List, [], ◌∷◌, ◌++◌}
use mathlib.Core.Bool.{Bool, true, false}
use native.Mathlib.Omega.{arith}
use lib.Dec.{eqb}
use lib.ListN.{length, get_or, set, take, length-append, get_or-append}
use lib.Seq.{get_or-append-add}
use borrow.Author.Tests.{lt-ltb, le-ltb, lt-leb, eqb-true, eqb-false}
use Rattle.numbers.specs.declared.Refusal.{Refusal}
use Rattle.numbers.specs.declared.Read.{Read}
use Rattle.numbers.specs.declared.Read.TheVariants as read
use Rattle.numbers.specs.Number.{spelt, answer_at, read_unsigned}
use Rattle.text.specs.declared.Part.{Part}
use Rattle.block.specs.Row.{no_part}
use Rattle.string.specs.declared.Place as string-place
use Rattle.string.specs.declared.Opened as string-opened
use Rattle.string.specs.declared.Opened.TheVariants as opened
use Rattle.string.specs.String as strings
use Rattle.grammar.specs.Grammar.{◌>>=◌}
use Rattle.grammar.specs.Course as course
use Rattle.decoder.specs.Line.{line, number_by, byte_at, so_many, bytes_at}
use Rattle.decoder.specs.States.{State, Texts, text_moved, with_keys, moved_to}
use Rattle.decoder.specs.Opening.{cut, heads, end_of, numbers_from, differences_from, bytes_from, standing, with_opened, text_opened, on_heads, opened_of}
use Rattle.cells.specs.Cells.{cell, numbers_in, differences_in, bytes_in, texts_in, state_in, why_in, Idle, Small, Elsewhere}
use Rattle.opening.specs.Opening.{Cut, opened_in, Opened}
use Rattle.cells.proofs.Words.{Held, put-at, run, put-run, texts-held, held-wide, held-short}
use Rattle.cells.proofs.States.{state-text, state-at, small_at, state-unkeyed}

-- ---- the text

module _ (u w : List ℕ) (s : Small w) where
  abbrev pub text_put : string-place.Place → List ℕ
  text_put p = set (set (run 5 w s (omega arith) p.units.at p.units.from p.units.last p.units.count) 40 p.at) 41 p.end

  text-held : (p : string-place.Place) → Held 5 w (p.units.at ∷ p.units.from ∷ p.units.last ∷ p.units.count ∷ cell w 5 4 ∷ p.at ∷ p.end ∷ []) (text_put p)
  text-held p =
      let w3 = run 5 w s (omega arith) p.units.at p.units.from p.units.last p.units.count in
      let h3 = put-run 5 w s (omega arith) p.units.at p.units.from p.units.last p.units.count in
      let h5 = put-at 5 w _ w3 (omega arith) h3 40 5 p.at refl (omega arith) in
      put-at 5 w _ (set w3 40 p.at) (omega arith) h5 41 6 p.end refl (omega arith)

  text-to : (state_in w).text.to ≡ cell w 5 4
  unfolding state_in texts_in
  text-to = refl

  module _ (t : List ℕ) (at : ℕ) (x : string-opened.Opened) (ea : at ≡ cell w 5 0) (et : t ≡ take (cell w 5 4) u) (ex : x ≡ strings.open_text t at) where
    text-opened : text_opened u (state_in w) ≡ with_opened (state_in w) x
    unfolding text_opened state_in texts_in numbers_in
    text-opened = rw (ex, et, ea) refl

    pub text-open : (p : string-place.Place) → x ≡ opened.At p → Small (text_put p) × (opened_in (text_put p) (Some 0) ≡ text_opened u (state_in w))
    unfolding opened_in with_opened
    text-open p told =
        let h = text-held p in
        let v = text_put p in (
          held-wide 5 w _ v h (omega arith, (λ q. omega arith), (λ q. omega arith), (λ q. omega arith)) s,
          rw (text-opened, told) (ap (course.got tt) (state-text w v h.elsewhere ∙ ap (λ (c : Texts). text_moved c (state_in w)) (texts-held 5 w _ v h ∙ rw text-to refl))),
        )

    pub text-not : (v : List ℕ) (r : Option ℕ) (why : Refusal) → x ≡ opened.Not why → (r ≡ None) × Small v × Elsewhere 9 w v × (why_in v ≡ why)
        → Small v × (opened_in v r ≡ text_opened u (state_in w))
    unfolding opened_in with_opened
    text-not v r why told p = (p.1, rw (p.0, text-opened, told) (ap course.not p.3))

-- ---- the columns

module _ (k : ℕ) (w : List ℕ) (s : Small w) (few : k ≤ 8) (from to : ℕ) (bare : k ≡ 0 → length w < 580 → to ≤ from) where
  pub column-put : Cut k from to w (set (set (set (run k w s few from from 0 0) (7 * k + 4) to) (7 * k + 5) 2147483648) (7 * k + 6) 0)
  column-put =
      let w3 = run k w s few from from 0 0 in
      let w4 = set w3 (7 * k + 4) to in
      let w5 = set w4 (7 * k + 5) 2147483648 in
      let w6 = set w5 (7 * k + 6) 0 in
      let h4 = put-at k w _ w3 few (put-run k w s few from from 0 0) (7 * k + 4) 4 to refl (omega arith) in
      let h5 = put-at k w _ w4 few h4 (7 * k + 5) 5 2147483648 refl (omega arith) in
      let h6 = put-at k w _ w5 few h5 (7 * k + 6) 6 0 refl (omega arith) in
      record {
        small = held-short k w _ w6 h6 s (λ z l. idle w6 z (h6.words 3 (omega arith)) (h6.words 4 (omega arith)) (h6.words 0 (omega arith)) (bare z (omega (arith, h6.size, l)))) (omega arith) (omega arith);
        elsewhere = h6.elsewhere;
        begins = (h6.words 0 (omega arith), h6.words 1 (omega arith));
        ends = h6.words 4 (omega arith);
        rest = (h6.words 2 (omega arith), h6.words 3 (omega arith), h6.words 5 (omega arith), h6.words 6 (omega arith));
      }
    where
      idle : (v : List ℕ) → k ≡ 0 → cell v k 3 ≡ 0 → cell v k 4 ≡ to → cell v k 0 ≡ from → to ≤ from → Idle v
      idle v z count ends begins l =
          let count₀ : cell v 0 3 ≡ 0 = subst (λ (j : ℕ). cell v j 3 ≡ 0) z count in
          let ends₀ : cell v 0 4 ≡ to = subst (λ (j : ℕ). cell v j 4 ≡ to) z ends in
          let begins₀ : cell v 0 0 ≡ from = subst (λ (j : ℕ). cell v j 0 ≡ from) z begins in
          (count₀, omega (arith, ends₀, begins₀, l))

-- a length whose first byte is 0
unfoldable size_of : Read → ℕ
size_of (read.Number v e) = v
size_of (read.Refused why) = 0

zero-size : (u : List ℕ) → get_or u 1 0 ≡ 0 → size_of (read_unsigned u 1) ≡ 0
unfolding read_unsigned answer_at spelt size_of
zero-size [] h = refl
zero-size (x ∷ []) h = refl
zero-size (x ∷ b ∷ t) h = rw h refl

pub empty-key : (u : List ℕ) (at size from : ℕ) → at ≡ 1 → read_unsigned u at ≡ read.Number size from → get_or u 1 0 ≡ 0 → size ≡ 0
unfolding size_of
empty-key u at size from one e h = let q : size_of (read_unsigned u 1) ≡ size = ap size_of (ap (read_unsigned u) (sym one) ∙ e) in sym q ∙ zero-size u h

-- column j stands at the part p, nothing drawn from it
pub record Fresh (w : List ℕ) (j : ℕ) (p : Part) : Type 0 where
  pub begins : (cell w j 0 ≡ p.place) × (cell w j 1 ≡ p.place)
  pub ends : cell w j 4 ≡ end_of p
  pub rest : (cell w j 2 ≡ 0) × (cell w j 3 ≡ 0) × (cell w j 5 ≡ 2147483648) × (cell w j 6 ≡ 0)

fresh-same : (w v : List ℕ) (k j : ℕ) (p : Part) → Elsewhere k w v → j ≤ 8 → j ≢ k → Fresh w j p → Fresh v j p
fresh-same w v k j p e few h f =
    let same : (i : ℕ) → i < 7 → cell v j i ≡ cell w j i = λ i l. e.same j i few h l in
    record {
      begins = (same 0 (omega arith) ∙ f.begins.0, same 1 (omega arith) ∙ f.begins.1);
      ends = same 4 (omega arith) ∙ f.ends;
      rest = (same 2 (omega arith) ∙ f.rest.0, same 3 (omega arith) ∙ f.rest.1, same 5 (omega arith) ∙ f.rest.2, same 6 (omega arith) ∙ f.rest.3);
    }

module _ (w : List ℕ) (j : ℕ) (p : Part) (f : Fresh w j p) where
  fresh-numbers : numbers_in w j ≡ numbers_from p
  unfolding numbers_in
  fresh-numbers = rw (f.begins.0, f.begins.1, f.rest.0, f.rest.1, f.ends) refl

  fresh-differences : differences_in w j ≡ differences_from p
  unfolding differences_in
  fresh-differences = rw (f.begins.0, f.begins.1, f.rest.0, f.rest.1, f.rest.2, f.ends) refl

  fresh-bytes : bytes_in w j ≡ bytes_from p
  unfolding bytes_in
  fresh-bytes = rw (f.begins.0, f.begins.1, f.rest.0, f.rest.1, f.rest.2, f.ends) refl

-- k columns are cut and the next length is at a place: from there on the opening comes to what it comes to
pub record Cutting (u w : List ℕ) (k at : ℕ) : Type 0 where
  pub parts : List Part
  pub many : length parts ≡ k
  pub fresh : (j : ℕ) → j < k → Fresh w j (get_or parts j no_part)
  pub comes : on_heads u (course.run (line 2 u) (cut (9 - k) parts) at) ≡ opened_of u

module _ (u : List ℕ) where
  pub cutting-empty : length u ≡ 0 → opened_of u ≡ course.not (record { number = 1; place = 0 })
  unfolding opened_of heads course.run course.on_drawn on_heads ◌>>=◌ line number_by byte_at
  cutting-empty e = rw e refl

  pub cutting-none : (w : List ℕ) → length u ≢ 0 → Cutting u w 0 1
  unfolding opened_of heads course.run course.on_drawn ◌>>=◌ line number_by byte_at
  cutting-none w l = record {
    parts = [];
    many = refl;
    fresh = λ j b. absurd (omega arith);
    comes = rw (lt-leb (length u) 0 (omega arith)) refl;
  }

  cut-run : (n at : ℕ) (ps : List Part)
      → course.run (line 2 u) (cut (suc n) ps) at ≡ course.on_drawn (bytes_at u at) (λ p t. course.run (line 2 u) (cut n (ps ++ (p ∷ []))) t)
  unfolding cut course.run ◌>>=◌ line
  cut-run n at ps = refl

  module _ (w : List ℕ) (k at : ℕ) (c : Cutting u w k at) where
    next : k < 9 → opened_of u ≡ on_heads u (course.on_drawn (bytes_at u at) (λ p t. course.run (line 2 u) (cut (8 - k) (c.parts ++ (p ∷ []))) t))
    next l =
        let e : 9 - k ≡ suc (8 - k) = omega arith in
        sym c.comes ∙ ap (on_heads u) (ap (λ (n : ℕ). course.run (line 2 u) (cut n c.parts) at) e ∙ cut-run (8 - k) at c.parts)

    pub cutting-stops : k < 9 → (why : Refusal) → bytes_at u at ≡ course.not why → opened_of u ≡ course.not why
    unfolding course.on_drawn on_heads
    cutting-stops l why e = next l ∙ rw e refl

    pub cutting-goes : k < 9 → (v : List ℕ) (p : Part) (t : ℕ) → bytes_at u at ≡ course.got p t → Cut k p.place (end_of p) w v → Cutting u v (k + 1) t
    unfolding course.on_drawn
    cutting-goes l v p t e z = record {
      parts = c.parts ++ (p ∷ []);
      many = length-append c.parts (p ∷ []) ∙ ap (λ (n : ℕ). n + 1) c.many;
      fresh = λ j b. go j b (eqb j k) refl;
      comes = ap (λ (n : ℕ). on_heads u (course.run (line 2 u) (cut n (c.parts ++ (p ∷ []))) t)) (let m : 9 - (k + 1) ≡ 8 - k = omega arith in m) ∙ sym (next l ∙ rw e refl);
    }
      where
        new : get_or (c.parts ++ (p ∷ [])) k no_part ≡ p
        new =
            let m : k ≡ length c.parts + 0 = omega (arith, c.many) in
            ap (λ (n : ℕ). get_or (c.parts ++ (p ∷ [])) n no_part) m ∙ get_or-append-add c.parts (p ∷ []) 0 no_part

        go : (j : ℕ) → j < k + 1 → (x : Bool) → eqb j k ≡ x → Fresh v j (get_or (c.parts ++ (p ∷ [])) j no_part)
        go j b true q = rw (eqb-true j k q, new) (record { begins = z.begins; ends = z.ends; rest = z.rest })
        go j b false q =
            let h = eqb-false j k q in
            let b : j < k = omega arith in
            rw (get_or-append c.parts (p ∷ []) no_part j (omega (arith, c.many))) (fresh-same w v k j (get_or c.parts j no_part) z.elsewhere (omega arith) h (c.fresh j b))

  -- opening the text looks at where its column begins and ends
  text-alike : (s : State) (t : Texts) → t.to ≡ s.text.to → t.place.units.at ≡ s.text.place.units.at → text_opened u (text_moved t s) ≡ text_opened u s
  unfolding text_opened with_opened
  text-alike s t a b =
      ap (λ (n : ℕ). with_opened (text_moved t s) (strings.open_text (take n u) t.place.units.at)) a
      ∙ ap (λ (n : ℕ). with_opened (text_moved t s) (strings.open_text (take s.text.to u) n)) b
      ∙ go (strings.open_text (take s.text.to u) s.text.place.units.at)
    where
      go : (x : string-opened.Opened) → with_opened (text_moved t s) x ≡ with_opened s x
      go (opened.At c) = ap (λ (n : ℕ). course.got tt (text_moved (record { place = c; to = n }) s)) a
      go (opened.Not why) = refl

  module _ (w : List ℕ) (at : ℕ) (c : Cutting u w 9 at) (s : Small w) where
    stood : with_keys [] (moved_to (state_in w) at) ≡ text_moved (texts_in w 5) (standing c.parts at)
    unfolding state_in
    stood = rw (
      fresh-differences w 0 _ (c.fresh 0 (omega arith)),
      fresh-numbers w 1 _ (c.fresh 1 (omega arith)),
      fresh-differences w 2 _ (c.fresh 2 (omega arith)),
      fresh-differences w 3 _ (c.fresh 3 (omega arith)),
      fresh-bytes w 4 _ (c.fresh 4 (omega arith)),
      fresh-bytes w 6 _ (c.fresh 6 (omega arith)),
      fresh-numbers w 7 _ (c.fresh 7 (omega arith)),
      fresh-numbers w 8 _ (c.fresh 8 (omega arith)),
    ) refl

    over-comes : text_opened u (standing c.parts at) ≡ opened_of u
    unfolding cut course.run on_heads
    over-comes = c.comes

    pub cutting-over : text_opened u (state_in (set (set w 63 at) 67 0)) ≡ opened_of u
    unfolding texts_in numbers_in
    cutting-over =
        ap (text_opened u) (state-unkeyed (set w 63 at) (small_at w s at) ∙ ap (with_keys []) (state-at w s at) ∙ stood)
        ∙ text-alike (standing c.parts at) (texts_in w 5) (c.fresh 5 (omega arith)).ends (c.fresh 5 (omega arith)).begins.0
        ∙ over-comes

-- ---- the words that say so

pub open-refused : (u w v : List ℕ) (r : Option ℕ) (why : Refusal) → opened_of u ≡ course.not why → (r ≡ None) × Small v × Elsewhere 9 w v × (why_in v ≡ why) → Opened u v r
unfolding opened_in
open-refused u w v r why e p = (p.1, rw (p.0, e) (ap course.not p.3))

module _ (u : List ℕ) (at : ℕ) where
  pub column-refused : (why : Refusal) → read_unsigned u at ≡ read.Refused why → bytes_at u at ≡ course.not why
  unfolding bytes_at so_many
  column-refused why e = rw e refl

  module _ (size from : ℕ) (e : read_unsigned u at ≡ read.Number size from) where
    pub column-short : length u - from < size → bytes_at u at ≡ course.not (record { number = 1; place = length u })
    unfolding bytes_at so_many
    column-short l = rw (e, lt-ltb (length u - from) size l) refl

    pub column-there : size ≤ length u - from → bytes_at u at ≡ course.got (record { place = from; bytes = record { 0 = size } }) (from + size)
    unfolding bytes_at so_many
    column-there l = rw (e, le-ltb (length u - from) size l) refl
