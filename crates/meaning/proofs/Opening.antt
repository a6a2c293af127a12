-- That form 2 is opened as the decoder opens it.
use Prim.Native.Nat.{ℕ, ◌+◌, ◌-◌}
use mathlib.Core.Path.{◌≡◌, refl, ◌∙◌}
use mathlib.Core.Bool.{Bool, true, false}
use mathlib.Core.List.{List, [], ◌∷◌, ◌++◌}
use lib.Dec.{ltb, leb}
use lib.ListN.{length, get_or, take, set}
use lib.Seq.{slice}
use Rattle.numbers.specs.declared.Read.{Read}
use Rattle.numbers.specs.declared.Read.TheVariants as read
use Rattle.numbers.specs.Number.{read_unsigned}
use Rattle.text.specs.declared.Part.{Part}
use Rattle.text.specs.Utf8.{well_formed}
use Rattle.columns.specs.Number.{start_at}
use Rattle.string.specs.String.{place_at, opened, open_text}
use Rattle.grammar.specs.Grammar as grammar
use Rattle.grammar.specs.Course as course
use Rattle.grammar.specs.Course.{Drawn, on_drawn, run}
use Rattle.decoder.specs.Line.{so_many, bytes_at, checked, word_of, line, number_by, byte_at}
use Rattle.decoder.specs.States.{State, text_moved}
use Rattle.decoder.specs.Opening as opening
use Rattle.decoder.specs.Opening.{standing, with_opened, text_opened, on_heads, opened_of}
use Rattle.meaning.specs.Reads.{when◌then◌else◌, Got, got, on, done}
use Rattle.meaning.specs.Line.{part, byte, word}
use Rattle.meaning.specs.Columns.{Coding, numbers, differences, octets, Lane, fresh}
use Rattle.meaning.specs.Fields.{Standing, stand}
use Rattle.meaning.specs.Update.{cut_lanes, columned}
use Rattle.meaning.specs.Alike.{drawn_as, at_state}
use Rattle.meaning.proofs.Line.{on-on, stored_is, word-is}

-- ---- the text opened

module _ (t : List ℕ) (s : State) (onto : Part → ℕ → Got Standing (Unit {0}))
    (same : (e n : ℕ) → onto (part e n) (e + n)
    ≡ got tt (at_state (text_moved (record { place = place_at e (e + n) (start_at (e + n)); to = s.text.to }) s))) where
  text-read : (r : Read) → on (drawn_as (λ p. p) (λ e. e) (word_of (checked t (so_many t r)))) onto ≡ drawn_as (λ a. a) at_state (with_opened s (opened t r))
  unfolding on drawn_as word_of checked so_many with_opened opened
  text-read (read.Refused why) = refl
  text-read (read.Number n e) = go (ltb (length t - e) n) refl (well_formed (slice e (e + n) t)) refl
    where
      go : (short : Bool) → ltb (length t - e) n ≡ short → (well : Bool) → well_formed (slice e (e + n) t) ≡ well
          → on (drawn_as (λ p. p) (λ e. e) (word_of (checked t (so_many t (read.Number n e))))) onto
          ≡ drawn_as (λ a. a) at_state (with_opened s (opened t (read.Number n e)))
      go true f well g = rw f
      go false f true g = rw (f, g) (same e n)
      go false f false g = rw (f, g)

  text-opened : (at : ℕ) → on (word t at) onto ≡ drawn_as (λ a. a) at_state (with_opened s (open_text t at))
  unfolding bytes_at open_text
  text-opened at = rw (word-is t at) (text-read (read_unsigned t at))

-- ---- the columns cut

abbrev column_from : Coding → Part → Lane
column_from kind p = fresh kind p.place (p.place + p.bytes.0)

-- whatever parts are cut, behind those that are: of the columns that they make, and of all parts
abbrev Whatever : List Coding → List Part → (List Lane → List Part → Type 0) → Type 0
Whatever [] ps P = P [] ps
Whatever (kind ∷ kinds) ps P = (p : Part) → Whatever kinds (ps ++ (p ∷ [])) (λ cs qs. P (column_from kind p ∷ cs) qs)

module _ (u : List ℕ) where
  cut-alike : (kinds : List Coding) (ps : List Part) (more : List Lane → ℕ → Got Standing (Unit {0}))
      → Whatever kinds ps (λ cs qs. (at : ℕ) → more cs at ≡ drawn_as (λ a. a) at_state (text_opened u (standing qs at)))
      → (at : ℕ) → on (cut_lanes u kinds at) more ≡ drawn_as (λ a. a) at_state (on_heads u (run (line 2 u) (opening.cut (length kinds) ps) at))
  unfolding on cut_lanes opening.cut on_heads run on_drawn line grammar.◌>>=◌ drawn_as
  cut-alike [] ps more same at = same at
  cut-alike (kind ∷ kinds) ps more same at =
      rw (stored_is u at) (go (bytes_at u at) (λ p. cut-alike kinds (ps ++ (p ∷ [])) (λ cs. more (column_from kind p ∷ cs)) (same p)))
    where
      rest : Part → ℕ → Got ℕ (List Lane)
      rest p e = on (cut_lanes u kinds e) (λ cs. done (column_from kind p ∷ cs))

      go : (d : Drawn ℕ Part)
          → ((p : Part) (e : ℕ) → on (cut_lanes u kinds e) (λ cs. more (column_from kind p ∷ cs))
          ≡ drawn_as (λ a. a) at_state (on_heads u (run (line 2 u) (opening.cut (length kinds) (ps ++ (p ∷ []))) e)))
          → on (on (drawn_as (λ p. p) (λ e. e) d) rest) more
          ≡ drawn_as (λ a. a) at_state (on_heads u (on_drawn d (λ p e. run (line 2 u) (opening.cut (length kinds) (ps ++ (p ∷ []))) e)))
      go (course.got p e) h = on-on (cut_lanes u kinds e) (λ cs. done (column_from kind p ∷ cs)) more ∙ h p e
      go (course.not why) h = refl

  pub opened-alike : columned u ≡ drawn_as (λ a. a) at_state (opened_of u)
  unfolding columned opened_of text_opened fresh opening.heads byte line number_by byte_at on on_heads run on_drawn grammar.◌>>=◌ drawn_as when◌then◌else◌
  opened-alike = go (leb (length u) 0) refl
    where
      kinds : List Coding
      kinds = differences ∷ numbers ∷ differences ∷ differences ∷ octets ∷ numbers ∷ octets ∷ numbers ∷ numbers ∷ []

      opens : List Lane → ℕ → Got Standing (Unit {0})
      opens cs at =
          let t = get_or cs 5 (fresh numbers 0 0) in
          on (word (take t.to u) t.at) λ p end. got tt (stand at (set cs 5 (fresh numbers end t.to)) p.place end [])

      whatever : Whatever kinds [] (λ cs qs. (at : ℕ) → opens cs at ≡ drawn_as (λ a. a) at_state (text_opened u (standing qs at)))
      whatever k c l r i x p t n at =
          text-opened (take (opening.end_of x) u) (standing (k ∷ c ∷ l ∷ r ∷ i ∷ x ∷ p ∷ t ∷ n ∷ []) at) _ (λ e m. refl) x.place

      go : (b : Bool) → leb (length u) 0 ≡ b → columned u ≡ drawn_as (λ a. a) at_state (opened_of u)
      go true e = rw e
      go false e = rw e (cut-alike kinds [] opens whatever 1)
