-- What `explain` promises is what it is said to tell.
use Prim.Native.Nat.{ℕ, zero, suc, ◌*◌, ◌≤◌}
use mathlib.Core.Path.{◌≡◌, refl, sym, ap, subst, ◌∙◌}
use mathlib.Core.Bool.{Bool, true, false, ◌&&◌, true≢false}
use mathlib.Core.List.{List, [], ◌∷◌, ◌++◌}
use native.Mathlib.Omega.{arith}
use lib.Dec.{ltb, eqb, leb-suc-suc}
use lib.ListN.{length, get_or}
use borrow.Author.Tests.{eqb-true, eq-eqb, lt-ltb, le-ltb}
use Rattle.numbers.specs.declared.Refusal.{Refusal}
use Rattle.numbers.specs.Number.{pick, nowhere}
use Rattle.numbers.specs.Number.{none as numbers-none}
use Rattle.text.specs.declared.Part.{Part}
use Rattle.block.specs.declared.Block.{Block}
use Rattle.grammar.specs.Grammar.{Field, Answer}
use Rattle.grammar.specs.Course as course
use Rattle.grammar.specs.Course.{Drawn, Reader, CourseTo, thing, over, stopped, on_drawn, run, fit, things, ending}
use Rattle.grammar.specs.Blocks as grammar
use Rattle.decoder.specs.Line.{line}
use Rattle.decoder.specs.States.{State}
use Rattle.decoder.specs.Columned.{columned}
use Rattle.decoder.specs.Opening.{standing, with_opened, text_opened, on_heads, opened_of}
use Rattle.decoder.specs.Update.{rest_places, in_columns, blocks_of, delete_set}
use Rattle.string.specs.declared.Opened as string-opened
use Rattle.string.specs.declared.Opened.TheVariants as opened
use Rattle.string.specs.String.{open_text}
use Rattle.readings.proofs.Counts.{blocks-count}
use Rattle.roles.specs.declared.Plan.{Plan}
use Rattle.roles.specs.Roles.{start}
use Rattle.origins.specs.declared.Line.{Line}
use Rattle.origins.specs.Origins.{line_stand, lines_in_line, lines_in}
use Rattle.origin_facts.specs.Facts.{On}
use Rattle.updates.specs.Promises.{early}
use Rattle.explainer.specs.Watch.{watch}
use Rattle.explainer.specs.Explanation.{clock_line, found, blank, on_opened, explanation}
use Rattle.explains.specs.Promises as promises
use Rattle.explains.proofs.Sheets.{length-words}
use Rattle.meaning.specs.Reads.{when◌then◌else◌, Got, got, refused, on}
use Rattle.meaning.specs.Fields.{Standing, Fields}
use Rattle.meaning.specs.Blocks.{bare, all_blocks}
use Rattle.meaning.specs.Update as short
use Rattle.meaning.specs.Update.{begun}
use Rattle.meaning.specs.Reads.{comes_to}
use Rattle.meaning.specs.Alike.{drawn_as, collect, at_place, at_state}
use Rattle.meaning.proofs.Opening.{opened-alike}
use Rattle.meaning.proofs.Whole.{refused_by, seen-things, rest-places, ending-then, ranges-then, seen-ending}
use Rattle.meaning.proofs.Enough.{fit-enough, ranges-enough}
use Rattle.meaning_calls.proofs.Enough.{early-first}
use Rattle.meaning_explain.specs.Explain.{Sheet, sheet, telling, value_for, lines_about, fitting, explain_of}
use Rattle.meaning_explain.proofs.Traces.{World}
use Rattle.meaning_explain.proofs.Plans.{Telling, blocks-traced}
use Rattle.meaning_explain.proofs.Finding.{nth, Finds, Fine, finds, forgets}
use Rattle.meaning_explain.proofs.Runs.{Good}
use Rattle.meaning_explain.proofs.Forms.{telling-1, telling-2}

-- ---- of the blocks that are kept: every one, or those that are where the plan is

abbrev Ok : Type 0
Ok = Plan → Sheet → Block → Bool

abbrev always : Ok
always q h b = true

abbrev sure : Ok
sure q h b = eqb q.clock b.clock && eqb (value_for 4 h.head) q.first

abbrev Passes : Ok → Type 0
Passes ok = (q : Plan) (h : Sheet) (b : Block) → q.clock ≡ b.clock → value_for 4 h.head ≡ q.first → ok q h b ≡ true

sure-passes : Passes sure
sure-passes q h b e f = rw (eq-eqb q.clock b.clock e, eq-eqb (value_for 4 h.head) q.first f)

-- its clock's line
sure-right : (q : Plan) (h : Sheet) (b : Block) → sure q h b ≡ true → h.head ++ (clock_line q ∷ h.own) ≡ lines_about b (h.head, h.own)
unfolding lines_about clock_line line_stand
sure-right q h b = go (eqb q.clock b.clock) refl (eqb (value_for 4 h.head) q.first) refl
  where
    go : (x : Bool) → eqb q.clock b.clock ≡ x → (y : Bool) → eqb (value_for 4 h.head) q.first ≡ y → x && y ≡ true
        → h.head ++ (clock_line q ∷ h.own) ≡ lines_about b (h.head, h.own)
    go true e true f _ = rw (eqb-true q.clock b.clock e, eqb-true (value_for 4 h.head) q.first f)
    go true e false f z = absurd (true≢false (sym z))
    go false e y f z = absurd (true≢false (sym z))

-- ---- the lines of block n, and the room for them

nth-there : (n : ℕ) (bs : List Block) (xs : List (List Line × List Line)) → length xs ≡ length bs
    → nth n bs xs ≡ pick (ltb n (length bs)) (lines_about (get_or bs n (bare 0 0 0 0)) (get_or xs n ([], []))) []
unfolding nth
nth-there n [] xs e = rw (le-ltb n 0 (omega arith))
nth-there n (b ∷ bs) [] e = absurd (omega (arith, e))
nth-there zero (b ∷ bs) (x ∷ xs) e = rw (lt-ltb 0 (suc (length bs)) (omega arith))
nth-there (suc n) (b ∷ bs) (x ∷ xs) e = rw (leb-suc-suc (suc n) (length bs)) (nth-there n bs xs (omega (arith, e)))

room_for : (room : ℕ) (l : Line) (ls : List Line)
    → promises.fitting room (l ∷ ls)
    ≡ (when ltb room (12 * length (l ∷ ls)) then promises.refused (nowhere 10) else record { why = numbers-none; lines = l ∷ ls })
unfolding promises.fitting when◌then◌else◌
room_for room l ls = rw (length-words (l ∷ ls)) (go (ltb room (12 * length (l ∷ ls))))
  where
    go : (b : Bool) → pick b (promises.refused (nowhere 10)) (record { why = numbers-none; lines = l ∷ ls })
        ≡ (when b then promises.refused (nowhere 10) else record { why = numbers-none; lines = l ∷ ls })
    go true = refl
    go false = refl

room-for-lines : (room : ℕ) (b : Block) (x : List Line × List Line)
    → promises.fitting room (lines_about b x)
    ≡ (when ltb room (12 * length (lines_about b x)) then promises.refused (nowhere 10) else record { why = numbers-none; lines = lines_about b x })
unfolding lines_about
room-for-lines room b x = go x.0 _ x.1
  where
    go : (head : List Line) (l : Line) (own : List Line)
        → promises.fitting room (head ++ (l ∷ own))
        ≡ (when ltb room (12 * length (head ++ (l ∷ own))) then promises.refused (nowhere 10) else record { why = numbers-none; lines = head ++ (l ∷ own) })
    go [] l own = room_for room l own
    go (k ∷ head) l own = room_for room k (head ++ (l ∷ own))

abbrev empty : Sheet
empty = sheet [] [] []

fitting-same : (n room : ℕ) (find : ℕ → List Line) (bs : List Block) (y : Sheet) → Finds find empty bs y
    → promises.fitting room (find n) ≡ fitting n room bs y.kept
unfolding fitting promises.fitting when◌then◌else◌
fitting-same n room find bs y f = rw (f.each n, nth-there n bs f.new f.many, f.kept) (go (ltb n (length bs)))
  where
    ls : List Line
    ls = lines_about (get_or bs n (bare 0 0 0 0)) (get_or f.new n ([], []))

    go : (b : Bool) → promises.fitting room (pick b ls [])
        ≡ (when b then (when ltb room (12 * length ls) then promises.refused (nowhere 10) else record { why = numbers-none; lines = ls })
        else promises.refused (nowhere 11))
    go true = room-for-lines room (get_or bs n (bare 0 0 0 0)) (get_or f.new n ([], []))
    go false = refl

-- ---- a course's end

ending-collect : {S T E A X : Type 0} (view : T → S) (c : CourseTo T E A) (g : S → X) (r : Refusal → X)
    → ending c (λ t. g (view t)) r ≡ comes_to (λ _ s. g s) r (collect view c)
unfolding ending collect comes_to on
ending-collect {S} {E = E} view (thing e p c) g r = ending-collect view c g r ∙ go (collect view c)
  where
    go : (y : Got S (List E)) → comes_to (λ _ s. g s) r y ≡ comes_to (λ _ s. g s) r (on y (λ es s. got (e ∷ es) s))
    go (got es s) = refl
    go (refused n p) = refl
ending-collect view (over a t) g r = refl
ending-collect view (stopped why) g r = refl

abbrev world : {T : Type 0} → (T → Standing) → Reader T → (ℕ → (f : Field) → Answer f → T → T → List Line) → (T → Type 0) → Ok → World Standing T
world view R tell G ok = record { view = view; reads = R; tell = tell; ok = ok; Good = G }

-- ---- a form: blocks from a state on, then the delete set

module _ (form : ℕ) (u : List ℕ) (n room : ℕ) where
  -- what is told where all of it could be read
  abbrev behind : ℕ → promises.Outcome → promises.Outcome
  behind at o = ending (delete_set form u at) (λ e. o) promises.refused

  abbrev rest : List Block → Standing × Sheet → Got (List (List Line × List Line)) (List Block)
  rest bs x = on (short.delete_set form u (length u) x.0.at) (λ _ _. got bs x.1.kept)

  deletes-then : (bs : List Block) (x : Standing × Sheet)
      → comes_to (λ bs kept. fitting n room bs kept) promises.refused (rest bs x) ≡ behind x.0.at (fitting n room bs x.1.kept)
  unfolding comes_to
  deletes-then bs x =
      ap (comes_to (λ bs kept. fitting n room bs kept) promises.refused) (ranges-then form u (length u) x.0.at (λ _ _. got bs x.1.kept))
      ∙ ending-then (comes_to (λ bs kept. fitting n room bs kept) promises.refused) (fit (length u) (delete_set form u x.0.at)) _ refused_by
      ∙ rw (ranges-enough form u x.0.at)

  module _ {T : Type 0} (view : T → Standing) (R : Reader T) (tell : ℕ → (f : Field) → Answer f → T → T → List Line) (G : T → Type 0)
      (F : Fields (Standing × Sheet)) (tells : (ok : Ok) → Passes ok → Telling (world view R tell G ok) F) (t : T) (good : G t) where
    abbrev all : Got (Standing × Sheet) (List Block)
    all = all_blocks F 65535 (view t, empty)

    abbrev find : ℕ → List Line
    find n = found tell start blank n (watch R grammar.all_blocks t)

    -- without its lines, what is read is what the grammar keeps
    all-kept : on all (λ bs x. got bs x.0) ≡ collect view (fit 65535 (run R grammar.all_blocks t))
    all-kept =
        let W = world view R tell G always in
        ap (λ (y : Got (Standing × Sheet) (List Block)). on y (λ bs x. got bs x.0)) (blocks-traced W F (tells always (λ q h b e f. refl)) 65535 t good empty)
        ∙ forgets W (λ q h b. refl) grammar.all_blocks 65535 start empty t

    -- and its lines are what is found
    all_found : Fine find empty all
    all_found =
        let W = world view R tell G sure in
        subst (λ (y : Got (Standing × Sheet) (List Block)). Fine find empty y) (sym (blocks-traced W F (tells sure sure-passes) 65535 t good empty))
        (finds W sure-right grammar.all_blocks 65535 start empty t)

    told_same : fit 65535 (run R grammar.all_blocks t) ≡ run R grammar.all_blocks t
        → ending (run R grammar.all_blocks t) (λ s. behind (view s).at (promises.fitting room (find n))) promises.refused
        ≡ comes_to (λ bs kept. fitting n room bs kept) promises.refused (on all rest)
    unfolding comes_to on Fine
    told_same enough =
        ending-collect view (run R grammar.all_blocks t) after promises.refused
        ∙ ap (λ (c : CourseTo T Block (Unit {0})). comes_to (λ _ s. after s) promises.refused (collect view c)) (sym enough)
        ∙ ap (comes_to (λ _ s. after s) promises.refused) (sym all-kept) ∙ go all all_found
      where
        after : Standing → promises.Outcome
        after s = behind s.at (promises.fitting room (find n))

        go : (y : Got (Standing × Sheet) (List Block)) → Fine find empty y
            → comes_to (λ _ s. after s) promises.refused (on y (λ bs x. got bs x.0))
            ≡ comes_to (λ bs kept. fitting n room bs kept) promises.refused (on y rest)
        go (got bs x) f = ap (behind x.0.at) (fitting-same n room find bs x.1 f) ∙ sym (deletes-then bs x)
        go (refused k p) f = refl

-- ---- either form

-- the blocks and the delete set, with their lines
abbrev shortly : ℕ → List ℕ → ℕ → ℕ → promises.Outcome
shortly form u n room =
    comes_to (λ bs kept. fitting n room bs kept) promises.refused
    (on (begun form u) (λ _ s. on (all_blocks (telling form u) 65535 (s, empty)) (rest form u n room)))

abbrev longly : ℕ → List ℕ → ℕ → ℕ → promises.Outcome
longly form u n room = ending (blocks_of form u) (λ at. behind form u n room at (promises.fitting room (explanation form u n))) promises.refused

told-1 : (u : List ℕ) (n room : ℕ) → longly 1 u n room ≡ shortly 1 u n room
unfolding blocks_of explanation begun when◌then◌else◌ on
told-1 u n room =
    told_same 1 u n room at_place (line 1 u) lines_in_line (λ t. Unit {0}) (telling 1 u) (λ ok passes. telling-1 u ok passes) 0 tt
    (fit-enough 65535 (run (line 1 u) grammar.all_blocks 0) (blocks-count 1 u))

-- behind its columns nothing was drawn yet
heads-good : (u : List ℕ) (c : CourseTo ℕ (Unit {0}) (List Part)) → On (λ _ s. Good u s) (on_heads u c)
unfolding on_heads On text_opened with_opened
heads-good u (thing e p c) = heads-good u c
heads-good u (over ps at) = go (open_text _ _)
  where
    s : State
    s = standing ps at

    fresh : {X : Type 0} → false ≡ true → X
    fresh e = absurd (true≢false (sym e))

    go : (o : string-opened.Opened) → On (λ _ s. Good u s) (with_opened s o)
    go (opened.At c) =
        record { key-fair = λ e. fresh e; left-fair = λ e. fresh e; right-fair = λ e. fresh e }
    go (opened.Not why) = tt
heads-good u (stopped why) = tt

opened-good : (u : List ℕ) → On (λ _ s. Good u s) (opened_of u)
unfolding opened_of
opened-good u = heads-good u _

told-2 : (form : ℕ) (u : List ℕ) (n room : ℕ) → eqb form 1 ≡ false → longly form u n room ≡ shortly form u n room
unfolding blocks_of explanation begun when◌then◌else◌ on in_columns on_drawn rest_places on_opened drawn_as ending comes_to On
told-2 form u n room two = rw (two, opened-alike u) (go (opened_of u) refl (opened-good u))
  where
    go : (d : Drawn State (Unit {0})) → opened_of u ≡ d → On (λ _ s. Good u s) d
        → ending (rest_places (on_drawn d (λ _ s. run (columned u) grammar.all_blocks s)))
        (λ at. behind form u n room at (promises.fitting room (on_opened u n d))) promises.refused
        ≡ comes_to (λ bs kept. fitting n room bs kept) promises.refused
        (on (drawn_as (λ a. a) at_state d) (λ _ s. on (all_blocks (telling form u) 65535 (s, empty)) (rest form u n room)))
    go (course.got x s) e good =
        rw (rest-places c) (seen-ending (λ (s : State). s.at) c _ promises.refused
        ∙ told_same form u n room at_state (columned u) (lines_in u) (Good u) (telling form u) (λ ok passes. telling-2 form u two ok passes) s good
        (fit-enough 65535 c few))
      where
        c : CourseTo State Block (Unit {0})
        c = run (columned u) grammar.all_blocks s

        same : things (blocks_of form u) ≡ things c
        same = rw (two, e, rest-places c) (seen-things (λ (s : State). s.at) c)

        few : length (things c) ≤ 65535
        few = subst (λ (bs : List Block). length bs ≤ 65535) same (blocks-count form u)
    go (course.not why) e good = refl

told-alike : (form : ℕ) (u : List ℕ) (n room : ℕ) → longly form u n room ≡ shortly form u n room
told-alike form u n room = go (eqb form 1) refl
  where
    go : (b : Bool) → eqb form 1 ≡ b → longly form u n room ≡ shortly form u n room
    go true e = rw (eqb-true form 1 e) (told-1 u n room)
    go false e = told-2 form u n room e

pub explain-same : (form : ℕ) (u : List ℕ) (n room : ℕ) → promises.explain_of form u n room ≡ explain_of form u n room
unfolding promises.explain_of explain_of when◌then◌else◌
explain-same form u n room = early-first form u promises.refused (longly form u n room) ∙ rw (told-alike form u n room) (go (eqb (early form u) 0))
  where
    go : (b : Bool)
        → pick b (shortly form u n room) (promises.refused (nowhere (early form u)))
        ≡ (when b then shortly form u n room else promises.refused (nowhere (early form u)))
    go true = refl
    go false = refl
