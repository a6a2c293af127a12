-- The fields that tell, in either form: each gives what the decoder's reader gives, and notes the lines of that draw.
use Prim.Native.Nat.{ℕ}
use mathlib.Core.Path.{◌≡◌, refl, ap}
use mathlib.Core.Bool.{Bool, true, false}
use mathlib.Core.List.{List, [], ◌∷◌}
use lib.Dec.{ltb, eqb}
use lib.ListN.{length}
use Rattle.numbers.specs.Number.{pick}
use Rattle.text.specs.declared.Part.{Part}
use Rattle.text.specs.declared.Units.{Units}
use Rattle.block.specs.declared.Block.{Block}
use Rattle.block.specs.Row.{no_part}
use Rattle.grammar.specs.Grammar as grammar
use Rattle.grammar.specs.Grammar.{Field, Answer}
use Rattle.grammar.specs.Course as course
use Rattle.grammar.specs.Course.{Drawn}
use Rattle.decoder.specs.Line as decoder
use Rattle.decoder.specs.States.{Numbers, State}
use Rattle.decoder.specs.Columned.{columned}
use Rattle.roles.specs.declared.Plan.{Plan}
use Rattle.origins.specs.declared.Line.{Line}
use Rattle.origins.specs.Origins as old
use Rattle.origins.specs.Origins.{lines_in_line, lines_in}
use Rattle.origin_facts.proofs.Draws.{on-got}
use Rattle.meaning.specs.Reads.{when◌then◌else◌, got, Reads, on}
use Rattle.meaning.specs.Fields.{Standing, fields}
use Rattle.meaning.specs.Alike.{drawn_as, at_place, at_state}
use Rattle.meaning.proofs.Fields.{alike-1, alike-2}
use Rattle.meaning_explain.specs.Explain.{Sheet, noted, told, telling, value_for, rise_of}
use Rattle.meaning_explain.specs.Explain.{plain_line, stored_line, drawn_line, number_line, text_line, bytes_line, key_lines}
use Rattle.meaning_explain.proofs.Traces.{World, on_traced, told_as}
use Rattle.meaning_explain.proofs.Plans.{Telling}
use Rattle.meaning_explain.proofs.Runs.{Good, Read, KnownNumber, Known, stays, numbers-line, octets-line, differences-line}

-- a field, and the lines of its draw
pub told_is : {T A : Type 0} (W : World Standing T) (m : ℕ → Reads Standing A) (lines : ℕ → A → Standing → Standing → List Line) (x : Field) (seen : Answer x → A)
    (role : ℕ) (t : T) (h : Sheet) → m role (W.view t) ≡ drawn_as seen W.view (W.reads x t)
    → ((a : Answer x) (s : T) → W.reads x t ≡ course.got a s → lines role (seen a) (W.view t) (W.view s) ≡ W.tell role x a t s)
    → told lines m role (W.view t, h) ≡ told_as W x seen role t h
unfolding told told_as on_traced on drawn_as
told_is {T} {A} W m lines x seen role t h alike same = rw alike (go (W.reads x t) refl)
  where
    go : (d : Drawn T (Answer x)) → W.reads x t ≡ d
        → on {T = Standing × Sheet} (drawn_as seen W.view d) (λ a s. got a (s, noted role (lines role a (W.view t) s) h))
        ≡ on_traced d (λ a s. got (seen a) (W.view s, noted role (W.tell role x a t s) h))
    go (course.got a s) e = rw (same a s e)
    go (course.not why) e = refl

-- ---- form 1

abbrev pub world-1 : List ℕ → (Plan → Sheet → Block → Bool) → World Standing ℕ
world-1 u ok = record { view = at_place; reads = decoder.line 1 u; tell = lines_in_line; ok = ok; Good = λ t. Unit {0} }

module _ (u : List ℕ) (ok : Plan → Sheet → Block → Bool)
    (fine : (q : Plan) (h : Sheet) (b : Block) → q.clock ≡ b.clock → value_for 4 h.head ≡ q.first → ok q h b ≡ true) where
  pub telling-1 : Telling (world-1 u ok) (telling 1 u)
  unfolding telling plain_line stored_line number_line text_line bytes_line key_lines when◌then◌else◌ old.line_at old.plain_line old.stored_line old.line_stand value_for
  telling-1 =
      let W = world-1 u ok in
      let F = fields 1 u in
      let A = alike-1 u in
      record {
        number = λ role most t h _.
            told_is W (λ r. F.number r most) _ (grammar.number (grammar.up_to most)) (λ a. a) role t h (A.number role most t) (λ a s e. refl);
        client = λ role t h _. told_is W F.client _ (grammar.number grammar.client) (λ a. a) role t h (A.client role t) (λ a s e. refl);
        left_clock = λ role t h _. told_is W F.left_clock _ (grammar.number grammar.left_clock) (λ a. a) role t h (A.left_clock role t) (λ a s e. refl);
        right_clock = λ role t h _. told_is W F.right_clock _ (grammar.number grammar.right_clock) (λ a. a) role t h (A.right_clock role t) (λ a s e. refl);
        info = λ role t h _. told_is W F.info _ (grammar.number grammar.info) (λ a. a) role t h (A.info role t) (λ a s e. refl);
        parent_info = λ role t h _. told_is W F.parent_info _ (grammar.number grammar.parent_info) (λ a. a) role t h (A.parent_info role t) (λ a s e. refl);
        type_number = λ role t h _. told_is W F.type_number _ (grammar.number grammar.type_number) (λ a. a) role t h (A.type_number role t) (λ a s e. refl);
        len = λ role t h _. told_is W F.len _ (grammar.number grammar.len) (λ a. a) role t h (A.len role t) (λ a s e. refl);
        text = λ role t h _. told_is W F.text _ grammar.text (λ a. (a.0, a.1.0)) role t h (A.text role t) (λ a s e. refl);
        bytes = λ role t h _. told_is W F.bytes _ grammar.bytes (λ p. p) role t h (A.bytes role t) (λ a s e. refl);
        key = λ role t h _. told_is W F.key _ grammar.key (λ p. p) role t h (A.key role t) (λ a s e. refl);
        value = λ role blame t h _. told_is W (λ r. F.value r blame) _ (grammar.value blame) (λ p. p) role t h (A.value role blame t) (λ a s e. refl);
        values = λ role blame n t h _.
            told_is W (λ r. F.values r blame n) _ (grammar.values blame n) (λ p. p) role t h (A.values role blame n t) (λ a s e. refl);
        kept = λ x. refl;
        stays = λ x a t s _ e. tt;
        first = λ role n a t s rest. refl;
        fine = fine;
      }

-- ---- form 2

abbrev pub world-2 : List ℕ → (Plan → Sheet → Block → Bool) → World Standing State
world-2 u ok = record { view = at_state; reads = columned u; tell = lines_in u; ok = ok; Good = Good u }

-- the lines of each draw, between two states
module _ (form : ℕ) (u : List ℕ) (two : eqb form 1 ≡ false) (role : ℕ) (s t : State) where
  abbrev from : Standing
  from = at_state s

  abbrev to : Standing
  to = at_state t

  client-line : (a : ℕ × ℕ) → number_line form u 1 role a from to ≡ lines_in u role (grammar.number grammar.client) a s t
  unfolding number_line drawn_line rise_of when◌then◌else◌ lines_in old.number_line old.stand_in old.rise_of
  client-line a = rw two (ap (λ (l : Line). l ∷ []) (numbers-line u form role a.0 no_part t.client))

  left-line : (a : ℕ × ℕ) → Read u t.left → number_line form u 2 role a from to ≡ lines_in u role (grammar.number grammar.left_clock) a s t
  unfolding number_line drawn_line when◌then◌else◌ lines_in old.number_line old.stand_in old.rise_of old.base_of
  left-line a read = rw two (ap (λ (l : Line). l ∷ []) (differences-line u form role a.0 no_part s.left.place.last t.left read))

  right-line : (a : ℕ × ℕ) → Read u t.right → number_line form u 3 role a from to ≡ lines_in u role (grammar.number grammar.right_clock) a s t
  unfolding number_line drawn_line when◌then◌else◌ lines_in old.number_line old.stand_in old.rise_of old.base_of
  right-line a read = rw two (ap (λ (l : Line). l ∷ []) (differences-line u form role a.0 no_part s.right.place.last t.right read))

  info-line : (a : ℕ × ℕ) → number_line form u 4 role a from to ≡ lines_in u role (grammar.number grammar.info) a s t
  unfolding number_line drawn_line rise_of when◌then◌else◌ lines_in old.number_line old.stand_in old.rise_of
  info-line a = rw two (ap (λ (l : Line). l ∷ []) (octets-line u form role a.0 no_part t.info))

  parent-line : (a : ℕ × ℕ) → number_line form u 6 role a from to ≡ lines_in u role (grammar.number grammar.parent_info) a s t
  unfolding number_line drawn_line rise_of when◌then◌else◌ lines_in old.number_line old.stand_in old.rise_of
  parent-line a = rw two (ap (λ (l : Line). l ∷ []) (octets-line u form role a.0 no_part t.parent))

  type-line : (a : ℕ × ℕ) → number_line form u 7 role a from to ≡ lines_in u role (grammar.number grammar.type_number) a s t
  unfolding number_line drawn_line rise_of when◌then◌else◌ lines_in old.number_line old.stand_in old.rise_of
  type-line a = rw two (ap (λ (l : Line). l ∷ []) (numbers-line u form role a.0 no_part t.types))

  len-line : (a : ℕ × ℕ) → number_line form u 8 role a from to ≡ lines_in u role (grammar.number grammar.len) a s t
  unfolding number_line drawn_line rise_of when◌then◌else◌ lines_in old.number_line old.stand_in old.rise_of
  len-line a = rw two (ap (λ (l : Line). l ∷ []) (numbers-line u form role a.0 no_part t.len))

  abbrev units : Numbers
  units = record { place = t.text.place.units; to = t.text.to }

  -- a text, by its units
  units-line : (code n : ℕ) (p : Part) → n ≡ t.text.place.units.last → drawn_line form u 5 code n p from to ≡ old.text_line u code p t
  unfolding drawn_line rise_of old.text_line old.text_stand
  units-line code n p e = rw e (numbers-line u form code t.text.place.units.last p units)

  text-line : (a : Part × Units) → a.1.0 ≡ t.text.place.units.last → text_line form u role (a.0, a.1.0) from to ≡ lines_in u role grammar.text a s t
  unfolding text_line when◌then◌else◌ lines_in
  text-line a e = rw two (ap (λ (l : Line). l ∷ []) (units-line role a.1.0 a.0 e))

  key-line : (p : Part) → Read u t.key → key_lines form u role p from to ≡ lines_in u role grammar.key p s t
  unfolding key_lines drawn_line when◌then◌else◌ lines_in old.key_lines old.key_line
  key-line p read = rw two (go (ltb (length s.keys) (length t.keys)))
    where
      number : drawn_line form u 0 role t.key.place.last p from to ≡ old.key_line u role p s.key.place.last t
      number = differences-line u form role t.key.place.last p s.key.place.last t.key read

      go : (b : Bool)
          → drawn_line form u 0 role t.key.place.last p from to
          ∷ (when b then drawn_line form u 5 27 t.text.place.units.last p from to ∷ [] else [])
          ≡ old.key_line u role p s.key.place.last t ∷ pick b (old.text_line u 27 p t ∷ []) []
      go true = λ i. number i ∷ (units-line 27 t.text.place.units.last p refl i ∷ [])
      go false = λ i. number i ∷ []

module _ (form : ℕ) (u : List ℕ) (two : eqb form 1 ≡ false) (ok : Plan → Sheet → Block → Bool)
    (fine : (q : Plan) (h : Sheet) (b : Block) → q.clock ≡ b.clock → value_for 4 h.head ≡ q.first → ok q h b ≡ true) where
  known : (x : Field) (t : State) → Good u t → (a : Answer x) (s : State) → columned u x t ≡ course.got a s → Good u s × Known u x a s
  known x t good a s e = on-got (λ a s. Good u s × Known u x a s) (columned u x t) a s (stays u t good x) e

  pub telling-2 : Telling (world-2 u ok) (telling form u)
  unfolding telling plain_line stored_line bytes_line lines_in old.number_line old.stand_in old.rise_of old.stored_line old.line_stand value_for Known KnownNumber
  telling-2 =
      let W = world-2 u ok in
      let F = fields form u in
      let A = alike-2 form u two in
      record {
        number = λ role most t h _.
            told_is W (λ r. F.number r most) _ (grammar.number (grammar.up_to most)) (λ a. a) role t h (A.number role most t) (λ a s e. refl);
        client = λ role t h _.
            told_is W F.client _ (grammar.number grammar.client) (λ a. a) role t h (A.client role t) (λ a s e. client-line form u two role t s a);
        left_clock = λ role t h g.
            told_is W F.left_clock _ (grammar.number grammar.left_clock) (λ a. a) role t h (A.left_clock role t)
            (λ a s e. left-line form u two role t s a (known (grammar.number grammar.left_clock) t g a s e).1);
        right_clock = λ role t h g.
            told_is W F.right_clock _ (grammar.number grammar.right_clock) (λ a. a) role t h (A.right_clock role t)
            (λ a s e. right-line form u two role t s a (known (grammar.number grammar.right_clock) t g a s e).1);
        info = λ role t h _. told_is W F.info _ (grammar.number grammar.info) (λ a. a) role t h (A.info role t) (λ a s e. info-line form u two role t s a);
        parent_info = λ role t h _.
            told_is W F.parent_info _ (grammar.number grammar.parent_info) (λ a. a) role t h (A.parent_info role t)
            (λ a s e. parent-line form u two role t s a);
        type_number = λ role t h _.
            told_is W F.type_number _ (grammar.number grammar.type_number) (λ a. a) role t h (A.type_number role t) (λ a s e. type-line form u two role t s a);
        len = λ role t h _. told_is W F.len _ (grammar.number grammar.len) (λ a. a) role t h (A.len role t) (λ a s e. len-line form u two role t s a);
        text = λ role t h g.
            told_is W F.text _ grammar.text (λ a. (a.0, a.1.0)) role t h (A.text role t)
            (λ a s e. text-line form u two role t s a (known grammar.text t g a s e).1);
        bytes = λ role t h _. told_is W F.bytes _ grammar.bytes (λ p. p) role t h (A.bytes role t) (λ a s e. refl);
        key = λ role t h g.
            told_is W F.key _ grammar.key (λ p. p) role t h (A.key role t) (λ a s e. key-line form u two role t s a (known grammar.key t g a s e).1);
        value = λ role blame t h _. told_is W (λ r. F.value r blame) _ (grammar.value blame) (λ p. p) role t h (A.value role blame t) (λ a s e. refl);
        values = λ role blame n t h _.
            told_is W (λ r. F.values r blame n) _ (grammar.values blame n) (λ p. p) role t h (A.values role blame n t) (λ a s e. refl);
        kept = λ x. refl;
        stays = λ x a t s g e. (known x t g a s e).0;
        first = λ role n a t s rest. refl;
        fine = fine;
      }
