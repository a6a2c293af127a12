-- Form 2: a token is drawn from a state whose columns give what the lanes took of it; all but keys.
use Prim.Native.Nat.{ℕ, ◌+◌, ◌^◌, ◌≤◌, ◌<◌}
use mathlib.Core.Path.{◌≡◌, sym, ap, subst, ◌∙◌}
use mathlib.Core.Bool.{true}
use mathlib.Core.List.{List, [], ◌∷◌}
use native.Mathlib.Omega.{arith}
use lib.ListN.{length, take, drop, length-take}
use lib.Seq.{slice, take-take, length-take-le}
use Rattle.numbers.specs.Number.{unsigned}
use Rattle.numbers.specs.Limits.{max_clock}
use Rattle.text.specs.declared.Part.{Part}
use Rattle.text.specs.Utf8.{units_of}
use Rattle.string.proofs.Steps.{GivesNumbers, GivesDifferences, GivesBytes, GivesTexts}
use Rattle.grammar.specs.Grammar as grammar
use Rattle.grammar.specs.Course.{got}
use Rattle.decoder.specs.Line.{number_by, line}
use Rattle.decoder.specs.States.{State, moved_to, client_moved, left_moved, right_moved, info_moved, text_moved, parent_moved, types_moved, len_moved}
use Rattle.decoder.specs.Columned.{number_drawn, difference_drawn, byte_drawn, text_drawn, onto, number_in, text_in, columned}
use Rattle.leftover.specs.Leftover.{columns_at}
use Rattle.leftover.specs.LeftoverInner.{Spent}
use Rattle.readings.specs.Sound.{bytes_in}
use Rattle.readings.proofs.Columns.{Within, TextHeld, text-held}
use Rattle.tokens.specs.Tokens.{Token, field, text, var, buf, value, values, taken, taken_all, keys, clients, lefts, rights, infos, parents, types, lens, rest}
use Rattle.draws.specs.Draws.{lane_field, AreAll, most, is_field}
use Rattle.draws.proofs.Standing.{From, past, var-here, behind, part_of, led-past, bytes-here, bytes_read, values-here, values-bytes}
use Rattle.draws.proofs.Fields.{by_field, bounded-in}
use Rattle.draws.proofs.Keys.{bytes_each}
use Rattle.draws.proofs.Values.{texts_of}

-- the columns end within n bytes; a draw changes none of that
pub record Ends (n x c l r i t p y k : ℕ) : Type 0 where
  pub key : x ≤ n
  pub client : c ≤ n
  pub left : l ≤ n
  pub right : r ≤ n
  pub info : i ≤ n
  pub text : t ≤ n
  pub parent : p ≤ n
  pub types : y ≤ n
  pub len : k ≤ n

abbrev pub EndsIn : List ℕ → State → Type 0
EndsIn u s =
    Ends (length u) s.key.to s.client.to s.left.to s.right.to s.info.to s.text.to s.parent.to s.types.to s.len.to

-- a state whose columns give the tokens, until no byte of them is left, and that has the keys ks
pub record Holds (u : List ℕ) (s : State) (ks : List (List ℕ)) (ts : List Token) : Type 0 where
  pub key : GivesDifferences (take s.key.to u) s.key.place (taken_all keys ts)
  pub client : GivesNumbers (take s.client.to u) s.client.place (taken_all clients ts)
  pub left : GivesDifferences (take s.left.to u) s.left.place (taken_all lefts ts)
  pub right : GivesDifferences (take s.right.to u) s.right.place (taken_all rights ts)
  pub info : GivesBytes (take s.info.to u) s.info.place (taken_all infos ts)
  pub text : GivesTexts (take s.text.to u) s.text.place (texts_of ts)
  pub within : Within (take s.text.to u) s.text.place
  pub parent : GivesBytes (take s.parent.to u) s.parent.place (taken_all parents ts)
  pub types : GivesNumbers (take s.types.to u) s.types.place (taken_all types ts)
  pub len : GivesNumbers (take s.len.to u) s.len.place (taken_all lens ts)
  pub rest : From u s.at (taken_all rest ts)
  pub known : bytes_each u s.keys ≡ ks
  pub ends : EndsIn u s

-- ---- a number of a column

-- it is drawn, and the columns give the tokens after it
abbrev pub Drawn : List ℕ → State → List (List ℕ) → ℕ → List Token → ℕ → Type 0
Drawn u s ks v ts k =
    v ≤ most k → Holds u s ks (field k v ∷ ts) → (p : ℕ) × (m : State) × (columned u (grammar.number (lane_field k)) s ≡ got (v, p) m) × Holds u m ks ts

module _ (u : List ℕ) (s : State) (ks : List (List ℕ)) (v : ℕ) (ts : List Token) where
  client-drawn : Drawn u s ks v ts clients
  unfolding taken taken_all texts_of columned number_in lane_field number_drawn
  client-drawn l h =
      let d = h.client in (
        d.0.from,
        client_moved (record { place = d.0; to = s.client.to }) s,
        rw d.1,
        record { key = h.key; client = d.2; left = h.left; right = h.right; info = h.info; text = h.text; within = h.within; parent = h.parent; types = h.types; len = h.len; rest = h.rest; known = h.known; ends = h.ends },
      )

  left-drawn : Drawn u s ks v ts lefts
  unfolding taken taken_all texts_of columned number_in lane_field difference_drawn
  left-drawn l h =
      let d = h.left in (
        d.0.from,
        left_moved (record { place = d.0; to = s.left.to }) s,
        rw d.1,
        record { key = h.key; client = h.client; left = d.2; right = h.right; info = h.info; text = h.text; within = h.within; parent = h.parent; types = h.types; len = h.len; rest = h.rest; known = h.known; ends = h.ends },
      )

  right-drawn : Drawn u s ks v ts rights
  unfolding taken taken_all texts_of columned number_in lane_field difference_drawn
  right-drawn l h =
      let d = h.right in (
        d.0.from,
        right_moved (record { place = d.0; to = s.right.to }) s,
        rw d.1,
        record { key = h.key; client = h.client; left = h.left; right = d.2; info = h.info; text = h.text; within = h.within; parent = h.parent; types = h.types; len = h.len; rest = h.rest; known = h.known; ends = h.ends },
      )

  info-drawn : Drawn u s ks v ts infos
  unfolding taken taken_all texts_of columned number_in lane_field byte_drawn
  info-drawn l h =
      let d = h.info in (
        d.0.from,
        info_moved (record { place = d.0; to = s.info.to }) s,
        rw d.1,
        record { key = h.key; client = h.client; left = h.left; right = h.right; info = d.2; text = h.text; within = h.within; parent = h.parent; types = h.types; len = h.len; rest = h.rest; known = h.known; ends = h.ends },
      )

  parent-drawn : Drawn u s ks v ts parents
  unfolding taken taken_all texts_of columned number_in lane_field byte_drawn
  parent-drawn l h =
      let d = h.parent in (
        d.0.from,
        parent_moved (record { place = d.0; to = s.parent.to }) s,
        rw d.1,
        record { key = h.key; client = h.client; left = h.left; right = h.right; info = h.info; text = h.text; within = h.within; parent = d.2; types = h.types; len = h.len; rest = h.rest; known = h.known; ends = h.ends },
      )

  type-drawn : Drawn u s ks v ts types
  unfolding taken taken_all texts_of columned number_in lane_field number_drawn
  type-drawn l h =
      let d = h.types in (
        d.0.from,
        types_moved (record { place = d.0; to = s.types.to }) s,
        rw d.1,
        record { key = h.key; client = h.client; left = h.left; right = h.right; info = h.info; text = h.text; within = h.within; parent = h.parent; types = d.2; len = h.len; rest = h.rest; known = h.known; ends = h.ends },
      )

  len-drawn : Drawn u s ks v ts lens
  unfolding taken taken_all texts_of columned number_in lane_field number_drawn most
  len-drawn l h =
      let d = h.len in (
        d.0.from,
        len_moved (record { place = d.0; to = s.len.to }) s,
        rw d.1 (bounded-in max_clock v d.0.from (len_moved (record { place = d.0; to = s.len.to }) s) l),
        record { key = h.key; client = h.client; left = h.left; right = h.right; info = h.info; text = h.text; within = h.within; parent = h.parent; types = h.types; len = d.2; rest = h.rest; known = h.known; ends = h.ends },
      )

  pub field-drawn : (k : ℕ) → is_field k ≡ true → Drawn u s ks v ts k
  field-drawn = by_field (Drawn u s ks v ts) client-drawn left-drawn right-drawn info-drawn parent-drawn type-drawn len-drawn

-- ---- a text

-- a part of u that lies before n is one of the front
front-part : (n : ℕ) (u : List ℕ) (p : Part) → p.place + p.bytes.0 ≤ length (take n u) → bytes_in u p ≡ slice p.place (p.place + p.bytes.0) (take n u)
unfolding bytes_in
front-part n u p l = ap (drop p.place) (sym (take-take (p.place + p.bytes.0) n u (omega (arith, length-take n u))))

pub text-drawn : (u : List ℕ) (s : State) (ks : List (List ℕ)) (b : List ℕ) (n : ℕ) (ts : List Token) → units_of b ≡ n → Holds u s ks (text b n ∷ ts)
    → (p : Part) × (m : State) × (text_in u s ≡ got (p, record { 0 = n }) m) × (bytes_in u p ≡ b) × Holds u m ks ts
unfolding taken taken_all texts_of text_drawn
text-drawn u s ks b n ts e h =
    let t = h.text in
    let held = subst (TextHeld (take s.text.to u)) t.2 (text-held (take s.text.to u) s.text.place h.within) in (
      t.0,
      text_moved (record { place = t.1; to = s.text.to }) s,
      rw (t.2, ← e, ← t.4),
      front-part s.text.to u t.0 held.0.lies ∙ t.3,
      record { key = h.key; client = h.client; left = h.left; right = h.right; info = h.info; text = t.5; within = held.1; parent = h.parent; types = h.types; len = h.len; rest = h.rest; known = h.known; ends = h.ends },
    )

-- ---- the rest

pub var-drawn : (u : List ℕ) (s : State) (ks : List (List ℕ)) (v : ℕ) (ts : List Token) → v < 2 ^ 63 → Holds u s ks (var v ∷ ts)
    → (p : ℕ) × (m : State) × (columned u (grammar.number grammar.any) s ≡ got (v, p) m) × Holds u m ks ts
unfolding taken taken_all texts_of columned number_in line number_by onto
var-drawn u s ks v ts l h = (
  s.at,
  moved_to s (s.at + length (unsigned v)),
  rw (var-here u s.at v (taken_all rest ts) h.rest l),
  record { key = h.key; client = h.client; left = h.left; right = h.right; info = h.info; text = h.text; within = h.within; parent = h.parent; types = h.types; len = h.len; rest = past u s.at (unsigned v) (taken_all rest ts) h.rest; known = h.known; ends = h.ends },
)

pub buf-drawn : (u : List ℕ) (s : State) (ks : List (List ℕ)) (b : List ℕ) (ts : List Token) → length b < 2 ^ 63 → Holds u s ks (buf b ∷ ts)
    → (p : Part) × (m : State) × (columned u grammar.bytes s ≡ got p m) × (bytes_in u p ≡ b) × Holds u m ks ts
unfolding taken taken_all texts_of columned line onto
buf-drawn u s ks b ts l h =
    let q : List ℕ = taken_all rest ts in (
      part_of (behind s.at b) b,
      moved_to s (behind s.at b + length b),
      rw (bytes_read u s.at b q h.rest l),
      bytes-here u s.at b q h.rest,
      record { key = h.key; client = h.client; left = h.left; right = h.right; info = h.info; text = h.text; within = h.within; parent = h.parent; types = h.types; len = h.len; rest = led-past u s.at b q h.rest; known = h.known; ends = h.ends },
    )

-- plain values, and a mark's, which is one
pub values-drawn : (u : List ℕ) (s : State) (ks : List (List ℕ)) (b : List ℕ) (ts : List Token) → Holds u s ks (values b ∷ ts)
    → (p : Part) × (m : State) × ((blame n : ℕ) → AreAll n b → columned u (grammar.values blame n) s ≡ got p m) × (bytes_in u p ≡ b) × Holds u m ks ts
unfolding taken taken_all texts_of columned line onto
values-drawn u s ks b ts h =
    let q : List ℕ = taken_all rest ts in (
      part_of s.at b,
      moved_to s (s.at + length b),
      λ blame n a. rw (values-here u s.at b q h.rest blame n a),
      values-bytes u s.at b q h.rest,
      record { key = h.key; client = h.client; left = h.left; right = h.right; info = h.info; text = h.text; within = h.within; parent = h.parent; types = h.types; len = h.len; rest = past u s.at b q h.rest; known = h.known; ends = h.ends },
    )

pub value-drawn : (u : List ℕ) (s : State) (ks : List (List ℕ)) (b : List ℕ) (ts : List Token) → AreAll 1 b → Holds u s ks (value b ∷ ts)
    → (p : Part) × (m : State) × ((blame : ℕ) → columned u (grammar.value blame) s ≡ got p m) × (bytes_in u p ≡ b) × Holds u m ks ts
unfolding taken taken_all texts_of columned line onto
value-drawn u s ks b ts a h =
    let q : List ℕ = taken_all rest ts in (
      part_of s.at b,
      moved_to s (s.at + length b),
      λ blame. rw (values-here u s.at b q h.rest blame 1 a),
      values-bytes u s.at b q h.rest,
      record { key = h.key; client = h.client; left = h.left; right = h.right; info = h.info; text = h.text; within = h.within; parent = h.parent; types = h.types; len = h.len; rest = past u s.at b q h.rest; known = h.known; ends = h.ends },
    )

-- ---- at the end

pub columns-spent : (u : List ℕ) (s : State) (ks : List (List ℕ)) → Holds u s ks [] → Spent (columns_at s)
unfolding Spent columns_at taken_all texts_of
columns-spent u s ks h =
    let e = h.ends in (
      omega (arith, h.key, length-take-le s.key.to u e.key),
      (
        omega (arith, h.client, length-take-le s.client.to u e.client),
        (
          omega (arith, h.left, length-take-le s.left.to u e.left),
          (
            omega (arith, h.right, length-take-le s.right.to u e.right),
            (
              omega (arith, h.info, length-take-le s.info.to u e.info),
              (
                omega (arith, h.text.0),
                (
                  omega (arith, h.text.1, length-take-le s.text.to u e.text),
                  (
                    omega (arith, h.parent, length-take-le s.parent.to u e.parent),
                    (
                      omega (arith, h.types, length-take-le s.types.to u e.types),
                      (
                        omega (arith, h.len, length-take-le s.len.to u e.len),
                        tt,
                      ),
                    ),
                  ),
                ),
              ),
            ),
          ),
        ),
      ),
    )
