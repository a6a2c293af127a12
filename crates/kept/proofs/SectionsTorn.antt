-- Planning finds a cut inside a pair exactly where a piece of what is kept is torn, and a format exactly where a piece is one.
use Prim.Native.Nat.{ℕ, ◌-◌, ◌*◌, ◌≤◌}
use mathlib.Core.Path.{◌≡◌, refl, sym, ap, ap₂, ◌∙◌}
use mathlib.Core.Bool.{Bool, true, false}
use mathlib.Core.List.{List, [], ◌∷◌, map}
use lib.Dec.{ltb}
use lib.ListN.{length}
use Rattle.numbers.specs.Number.{pick}
use Rattle.block.specs.declared.Block.{Block}
use Rattle.block.specs.Kinds.{is_format}
use Rattle.vector.specs.Vector.{Entry}
use Rattle.readings.specs.Sound.{All}
use Rattle.readings.specs.SoundInner.{Sound, Ordered}
use Rattle.readings.specs.Groups.{groups}
use Rattle.readings.proofs.Groups.{groups-all}
use Rattle.parts.specs.Brim.{brim}
use Rattle.kept.specs.Kept.{Piece, Section, remote, falls, piece, whole_piece, keep_from, with_pieces, keep_each, put_section, falling, client_of, sections_of}
use Rattle.kept.specs.Cut.{torn_pieces, any_torn, format_in, any_format}
use Rattle.kept.specs.Plan.{unplanned, plan_all}
use Rattle.kept.proofs.SectionsRun.{torn_at, torn_one, format_rows, format_one, or, or-none, or_swap}
use Rattle.kept.proofs.SectionsPlan.{torn_each, format_each, rows-come}
use Rattle.kept.proofs.SectionsCut.{torn-first, torn-whole}

-- ---- what some piece of a section has, in sections one more and in their places

module _ (has : List Piece → Bool) (any : List Section → Bool) (none : has [] ≡ false) (nowhere : any [] ≡ false)
    (more : (s : Section) (ss : List Section) → any (s ∷ ss) ≡ or (has s.pieces) (any ss)) where
  with-any : (c : ℕ) (ps : List Piece) (ss : List Section) → any (with_pieces c ps ss) ≡ or (has ps) (any ss)
  unfolding with_pieces
  with-any c [] ss = rw none refl
  with-any c (p ∷ ps) ss = more (record { client = c; pieces = p ∷ ps }) ss

  place-any : (s : Section) (ts : List Section) → any (put_section s ts) ≡ or (has s.pieces) (any ts)
  unfolding put_section
  place-any s [] = more s []
  place-any s (t ∷ ts) = go (place-any s ts) (ltb s.client t.client)
    where
      go : any (put_section s ts) ≡ or (has s.pieces) (any ts) → (x : Bool) → any (pick x (t ∷ put_section s ts) (s ∷ (t ∷ ts))) ≡ or (has s.pieces) (any (t ∷ ts))
      go on true =
          more t (put_section s ts) ∙ ap (or (has t.pieces)) on ∙ or_swap (has t.pieces) (has s.pieces) (any ts)
          ∙ ap (or (has s.pieces)) (sym (more t ts))
      go on false = more s (t ∷ ts)

  falling-any : (ss : List Section) → any (falling ss) ≡ any ss
  unfolding falling
  falling-any [] = refl
  falling-any (s ∷ ss) = place-any s (falling ss) ∙ ap (or (has s.pieces)) (falling-any ss) ∙ sym (more s ss)

-- ---- torn

module _ (u : List ℕ) where
  wholes-untorn : (g : List Block) → All (Sound u) g → torn_pieces u (map whole_piece g) ≡ false
  unfolding torn_pieces
  wholes-untorn [] h = refl
  wholes-untorn (b ∷ g) h = rw (torn-whole u b h.0) (wholes-untorn g h.1)

  keep-torn : (k : ℕ) (g : List Block) → All (Sound u) g → torn_one u k g ≡ torn_pieces u (keep_from k g)
  unfolding torn_one torn_pieces keep_from
  keep-torn k [] h = refl
  keep-torn k (b ∷ g) h = go (keep-torn k g h.1) (falls k b)
    where
      go : torn_one u k g ≡ torn_pieces u (keep_from k g) → (t : Bool)
          → pick t (torn_one u k g) (torn_at u b (k - b.clock)) ≡ torn_pieces u (pick t (keep_from k g) (piece b (k - b.clock) b.length.0 ∷ map whole_piece g))
      go on true = on
      go on false = sym (ap₂ or (torn-first u b h.0 (k - b.clock)) (wholes-untorn g h.1) ∙ or-none (torn_at u b (k - b.clock)))

  torn-with : (c : ℕ) (ps : List Piece) (ss : List Section) → any_torn u (with_pieces c ps ss) ≡ or (torn_pieces u ps) (any_torn u ss)
  unfolding torn_pieces any_torn
  torn-with = with-any (torn_pieces u) (any_torn u) refl refl (λ s ss. refl)

  torn-falling : (ss : List Section) → any_torn u (falling ss) ≡ any_torn u ss
  unfolding torn_pieces any_torn
  torn-falling = falling-any (torn_pieces u) (any_torn u) refl refl (λ s ss. refl)

-- ---- formats

wholes-format : (g : List Block) → format_in (map whole_piece g) ≡ format_rows g
unfolding format_in format_rows
wholes-format [] = refl
wholes-format (b ∷ g) = ap (or (is_format b.kind)) (wholes-format g)

keep-format : (k : ℕ) (g : List Block) → format_one k g ≡ format_in (keep_from k g)
unfolding format_one format_rows format_in keep_from
keep-format k [] = refl
keep-format k (b ∷ g) = go (keep-format k g) (falls k b)
  where
    go : format_one k g ≡ format_in (keep_from k g) → (t : Bool)
        → pick t (format_one k g) (or (is_format b.kind) (format_rows g)) ≡ format_in (pick t (keep_from k g) (piece b (k - b.clock) b.length.0 ∷ map whole_piece g))
    go on true = on
    go on false = ap (or (is_format b.kind)) (sym (wholes-format g))

format-with : (c : ℕ) (ps : List Piece) (ss : List Section) → any_format (with_pieces c ps ss) ≡ or (format_in ps) (any_format ss)
unfolding format_in any_format
format-with = with-any format_in any_format refl refl (λ s ss. refl)

format-falling : (ss : List Section) → any_format (falling ss) ≡ any_format ss
unfolding format_in any_format
format-falling = falling-any format_in any_format refl refl (λ s ss. refl)

-- ---- of all clients

module _ (u : List ℕ) (v : List Entry) where
  each-torn : (gs : List (List Block)) → All (All (Sound u)) gs → torn_each u v gs ≡ any_torn u (keep_each v gs)
  unfolding torn_each keep_each any_torn
  each-torn [] h = refl
  each-torn ([] ∷ gs) h = each-torn gs h.1
  each-torn ((b ∷ g) ∷ gs) h =
      let ps = keep_from (remote v b.client) (b ∷ g) in
      ap₂ or (keep-torn u (remote v b.client) (b ∷ g) h.0) (each-torn gs h.1) ∙ sym (torn-with u b.client ps (keep_each v gs))

  each-format : (gs : List (List Block)) → format_each v gs ≡ any_format (keep_each v gs)
  unfolding format_each keep_each any_format
  each-format [] = refl
  each-format ([] ∷ gs) = each-format gs
  each-format ((b ∷ g) ∷ gs) =
      let ps = keep_from (remote v b.client) (b ∷ g) in
      ap₂ or (keep-format (remote v b.client) (b ∷ g)) (each-format gs) ∙ sym (format-with b.client ps (keep_each v gs))

  sections-torn : (bs : List Block) → All (Sound u) bs → torn_each u v (groups client_of bs) ≡ any_torn u (sections_of v bs)
  unfolding sections_of
  sections-torn bs h = each-torn (groups client_of bs) (groups-all client_of (Sound u) bs h) ∙ sym (torn-falling u (keep_each v (groups client_of bs)))

  sections-format : (bs : List Block) → format_each v (groups client_of bs) ≡ any_format (sections_of v bs)
  unfolding sections_of
  sections-format bs = each-format (groups client_of bs) ∙ sym (format-falling (keep_each v (groups client_of bs)))

  pub plan-torn : (w : List ℕ) (bs : List Block) → Ordered bs → All (Sound u) bs → length bs ≤ brim → 5 * length (groups client_of bs) ≤ length w
      → (plan_all u v w unplanned 0 bs).torn ≡ any_torn u (sections_of v bs)
  plan-torn w bs ordered sound brimmed room = (rows-come u v w bs ordered brimmed room).torn ∙ sections-torn bs sound

  -- whatever the rows are, sound or not
  pub plan-formats : (w : List ℕ) (bs : List Block) → Ordered bs → length bs ≤ brim → 5 * length (groups client_of bs) ≤ length w
      → (plan_all u v w unplanned 0 bs).formats ≡ any_format (sections_of v bs)
  plan-formats w bs ordered brimmed room = (rows-come u v w bs ordered brimmed room).formats ∙ sections-format bs
