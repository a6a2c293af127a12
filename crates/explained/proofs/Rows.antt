-- The lines of a draw, read as a record, put what was drawn into the row.
use Prim.Native.Nat.{ℕ}
use mathlib.Core.Path.{◌≡◌, refl, sym, ap, ◌∙◌}
use mathlib.Core.Logic.{◌≢◌}
use mathlib.Core.Bool.{Bool, true, false}
use mathlib.Core.List.{List, [], ◌∷◌, ◌++◌}
use lib.Dec.{eqb, ltb}
use lib.ListN.{length, take}
use borrow.Author.Tests.{eqb-false}
use Rattle.numbers.specs.Number.{pick}
use Rattle.numbers.specs.Limits.{max_clients, max_clock}
use Rattle.text.specs.declared.Part.{Part}
use Rattle.text.specs.declared.Units.{Units}
use Rattle.block.specs.declared.Block.{Block}
use Rattle.string.specs.declared.Answer as string-answer
use Rattle.string.specs.declared.Answer.TheVariants as string
use Rattle.string.specs.String.{next_text}
use Rattle.grammar.specs.Grammar as grammar
use Rattle.grammar.specs.Grammar.{Number, Answer}
use Rattle.grammar.specs.Course.{Drawn, got, not}
use Rattle.decoder.specs.States.{State, Texts, text_moved}
use Rattle.decoder.specs.Columned.{text_drawn, columned}
use Rattle.decoder.specs.ColumnedInner.{fields}
use Rattle.decoder.proofs.Laws.{fields-columned}
use Rattle.roles.specs.declared.Role.{Role}
use Rattle.roles.specs.declared.Role.TheVariants as role
use Rattle.roles.specs.declared.Plan.{Plan}
use Rattle.roles.specs.Roles.{key_text, code_of}
use Rattle.origins.specs.declared.Line.{Line}
use Rattle.origins.specs.Origins.{stored_line, plain_line, line_at, lines_in_line, text_line, key_line, key_lines, number_line, lines_in}
use Rattle.telling.specs.Telling.{heard}
use Rattle.telling.specs.TellingInner.{field_of, lines_of}
use Rattle.explainer.specs.Record.{head_row, id_row, content_row, name_row, rowed, row_by}
use Rattle.explainer.proofs.Fits.{part_of}
use Rattle.explainer.proofs.Going.{Own}

pub row-append : (xs ys : List Line) (b : Block) → row_by (xs ++ ys) b ≡ row_by ys (row_by xs b)
unfolding row_by
row-append [] ys b = refl
row-append (x ∷ xs) ys b = row-append xs ys (rowed x.field x.value x.part b)

-- what a block's own line puts leaves the client
pub own-client : (r : Role) → Own r → (v : ℕ) (p : Part) (b : Block) → (rowed (code_of r) v p b).client ≡ b.client
unfolding Own code_of rowed head_row id_row content_row name_row
own-client role.Sections o v p b = absurd o
own-client role.Blocks o v p b = absurd o
own-client role.Client o v p b = absurd o
own-client role.FirstClock o v p b = absurd o
own-client role.Info o v p b = absurd o
own-client role.SkipLength o v p b = refl
own-client role.GcLength o v p b = refl
own-client role.LeftClient o v p b = refl
own-client role.LeftClock o v p b = refl
own-client role.RightClient o v p b = refl
own-client role.RightClock o v p b = refl
own-client role.ParentInfo o v p b = refl
own-client role.ParentName o v p b = refl
own-client role.ParentClient o v p b = refl
own-client role.ParentClock o v p b = refl
own-client role.Key o v p b = refl
own-client role.DeletedLength o v p b = refl
own-client role.Binary o v p b = refl
own-client role.Text o v p b = refl
own-client role.MarkKey o v p b = refl
own-client role.MarkValue o v p b = refl
own-client role.TypeNumber o v p b = refl
own-client role.NodeName o v p b = refl
own-client role.ListLength o v p b = refl
own-client role.ListValues o v p b = refl
own-client role.Ended o v p b = refl
own-client role.Over o v p b = absurd o

-- ---- units

-- in form 2 a text's units are the number that its column gave last
units-drawn : (put : Texts → State) (to : ℕ) (d : string-answer.Answer) → ((c : Texts) → (put c).text ≡ c) → (a : Part × Units) (t : State) → text_drawn put to d ≡ got a t → t.text.place.units.last ≡ a.1.0
unfolding text_drawn
units-drawn put to d puts a t e = ap last_of (sym e) ∙ same d ∙ ap units_of e
  where
    units_of : Drawn State (Part × Units) → ℕ
    units_of (got b x) = b.1.0
    units_of (not why) = 0

    last_of : Drawn State (Part × Units) → ℕ
    last_of (got b x) = x.text.place.units.last
    last_of (not why) = 0

    same : (x : string-answer.Answer) → last_of (text_drawn put to x) ≡ units_of (text_drawn put to x)
    same (string.Next p c) = ap (λ (y : Texts). y.place.units.last) (puts (record { place = c; to = to }))
    same (string.Bad why) = refl

module _ (form : ℕ) (u : List ℕ) where
  number-row : (code : ℕ) (n : Number) (a : ℕ × ℕ) (s t : State) (b : Block) → row_by (lines_of form u code (grammar.number n) a s t) b ≡ rowed code (heard (grammar.number n) a).0 (part_of (grammar.number n) a) b
  unfolding lines_of lines_in line_at plain_line number_line row_by heard part_of
  number-row code n a s t b = go (eqb form 1)
    where
      go : (x : Bool) → row_by (pick x (lines_in_line code (grammar.number n) a s.at t.at) (lines_in u code (grammar.number n) a s t)) b ≡ rowed code (heard (grammar.number n) a).0 (part_of (grammar.number n) a) b
      go true = refl
      go false = refl

  text-row : (code : ℕ) (a : Part × Units) (s t : State) (b : Block) → fields form u grammar.text s ≡ got a t → row_by (lines_of form u code grammar.text a s t) b ≡ rowed code (heard grammar.text a).0 (part_of grammar.text a) b
  unfolding lines_of lines_in line_at stored_line text_line row_by heard part_of columned
  text-row code a s t b e = go (eqb form 1) refl
    where
      go : (x : Bool) → eqb form 1 ≡ x → row_by (pick x (lines_in_line code grammar.text a s.at t.at) (lines_in u code grammar.text a s t)) b ≡ rowed code (heard grammar.text a).0 (part_of grammar.text a) b
      go true ex = refl
      go false ex = ap (λ (n : ℕ). rowed code n a.0 b) (units-drawn (λ c. text_moved c s) s.text.to (next_text (take s.text.to u) s.text.place) (λ c. refl) a t (sym (fields-columned form u (eqb-false form 1 ex) grammar.text s) ∙ e))

  key_row : (code : ℕ) (a : Part) (s t : State) (b : Block) → ((v : ℕ) → rowed code v a b ≡ rowed code 0 a b) → row_by (lines_of form u code grammar.key a s t) b ≡ rowed code 0 a b
  unfolding lines_of lines_in line_at stored_line text_line key_line key_lines row_by rowed head_row id_row content_row name_row
  key_row code a s t b free = go (eqb form 1)
    where
      by : (x : Bool) (c : Block) → row_by (pick x (text_line u key_text a t ∷ []) []) c ≡ c
      by true c = refl
      by false c = refl

      go : (x : Bool) → row_by (pick x (lines_in_line code grammar.key a s.at t.at) (lines_in u code grammar.key a s t)) b ≡ rowed code 0 a b
      go true = free a.bytes.0
      go false = by (ltb (length s.keys) (length t.keys)) (rowed code t.key.place.last a b) ∙ free t.key.place.last

  stored_row : (code : ℕ) (p : Part) (from : ℕ) (b : Block) → ((v : ℕ) → rowed code v p b ≡ rowed code 0 p b) → (x : Bool) → row_by (pick x (stored_line code p.bytes.0 p from ∷ []) (stored_line code p.bytes.0 p from ∷ [])) b ≡ rowed code 0 p b
  unfolding stored_line row_by
  stored_row code p from b free true = free p.bytes.0
  stored_row code p from b free false = free p.bytes.0

  pub lines-row : (r : Role) (q : Plan) (a : Answer (field_of r q)) (s t : State) (b : Block) → fields form u (field_of r q) s ≡ got a t → code_of r ≢ 0 → code_of r ≢ 28
      → row_by (lines_of form u (code_of r) (field_of r q) a s t) b ≡ rowed (code_of r) (heard (field_of r q) a).0 (part_of (field_of r q) a) b
  unfolding field_of code_of heard part_of lines_of lines_in line_at rowed head_row id_row content_row name_row
  lines-row role.Sections q a s t b e n0 n28 = number-row 1 (grammar.up_to max_clients) a s t b
  lines-row role.Blocks q a s t b e n0 n28 = number-row 2 (grammar.up_to q.room) a s t b
  lines-row role.Client q a s t b e n0 n28 = number-row 3 grammar.client a s t b
  lines-row role.FirstClock q a s t b e n0 n28 = number-row 4 (grammar.up_to max_clock) a s t b
  lines-row role.Info q a s t b e n0 n28 = number-row 6 grammar.info a s t b
  lines-row role.SkipLength q a s t b e n0 n28 = number-row 7 (grammar.up_to max_clock) a s t b
  lines-row role.GcLength q a s t b e n0 n28 = number-row 8 grammar.len a s t b
  lines-row role.LeftClient q a s t b e n0 n28 = number-row 9 grammar.client a s t b
  lines-row role.LeftClock q a s t b e n0 n28 = number-row 10 grammar.left_clock a s t b
  lines-row role.RightClient q a s t b e n0 n28 = number-row 11 grammar.client a s t b
  lines-row role.RightClock q a s t b e n0 n28 = number-row 12 grammar.right_clock a s t b
  lines-row role.ParentInfo q a s t b e n0 n28 = number-row 13 grammar.parent_info a s t b
  lines-row role.ParentName q a s t b e n0 n28 = text-row 14 a s t b e
  lines-row role.ParentClient q a s t b e n0 n28 = number-row 15 grammar.client a s t b
  lines-row role.ParentClock q a s t b e n0 n28 = number-row 16 grammar.left_clock a s t b
  lines-row role.Key q a s t b e n0 n28 = text-row 17 a s t b e
  lines-row role.DeletedLength q a s t b e n0 n28 = number-row 18 grammar.len a s t b
  lines-row role.Binary q a s t b e n0 n28 = stored_row 19 a s.at b (λ v. refl) (eqb form 1)
  lines-row role.Text q a s t b e n0 n28 = text-row 20 a s t b e
  lines-row role.MarkKey q a s t b e n0 n28 = key_row 21 a s t b (λ v. refl)
  lines-row role.MarkValue q a s t b e n0 n28 = stored_row 22 a s.at b (λ v. refl) (eqb form 1)
  lines-row role.TypeNumber q a s t b e n0 n28 = number-row 23 grammar.type_number a s t b
  lines-row role.NodeName q a s t b e n0 n28 = key_row 24 a s t b (λ v. refl)
  lines-row role.ListLength q a s t b e n0 n28 = number-row 25 grammar.len a s t b
  lines-row role.ListValues q a s t b e n0 n28 = stored_row 26 a s.at b (λ v. refl) (eqb form 1)
  lines-row role.Ended q a s t b e n0 n28 = absurd (n0 refl)
  lines-row role.Over q a s t b e n0 n28 = absurd (n28 refl)
