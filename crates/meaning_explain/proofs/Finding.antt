-- What is found while a grammar is read is what its sheet has kept; and without the sheet, what is read is what the grammar keeps.
use Prim.Native.Nat.{ℕ, zero, suc}
use mathlib.Core.Path.{◌≡◌, refl, sym, ap, subst, ◌∙◌}
use mathlib.Core.Bool.{Bool, true, false}
use mathlib.Core.List.{List, [], ◌∷◌, ◌++◌, append-nil, append_assoc}
use lib.Dec.{eqb, ltb}
use lib.ListN.{length}
use Rattle.block.specs.declared.Block.{Block}
use Rattle.grammar.specs.Grammar as grammar
use Rattle.grammar.specs.Grammar.{Answer, Grammar, ask, emit, stop}
use Rattle.grammar.specs.Course as course
use Rattle.grammar.specs.Course.{Drawn, on_drawn, run, fit}
use Rattle.roles.specs.declared.Plan.{Plan}
use Rattle.roles.specs.Roles.{code_of, after, moved_on}
use Rattle.origins.specs.declared.Line.{Line}
use Rattle.telling.specs.Telling.{heard}
use Rattle.explainer.specs.Watch.{on_seen, watch}
use Rattle.explainer.specs.Explanation as old
use Rattle.explainer.specs.Explanation.{clock_line, found}
use Rattle.meaning.specs.Reads.{when◌then◌else◌, Got, got, refused, on}
use Rattle.meaning.specs.Alike.{collect}
use Rattle.meaning.proofs.Courses.{on-on}
use Rattle.meaning_explain.specs.Explain.{Sheet, sheet, noted, lines_about}
use Rattle.meaning_explain.proofs.Traces.{closed, World, on_traced, traced}

-- ---- sheets

abbrev pub page : Sheet → old.Sheet
page h = record { head = h.head; own = h.own }

noted-same : (code : ℕ) (ls : List Line) (h : Sheet) → old.noted code ls (page h) ≡ page (noted code ls h)
unfolding old.noted noted code_of when◌then◌else◌
noted-same code ls h = go (eqb code 2) refl (ltb code 5) refl (eqb code 6) refl
  where
    go : (a : Bool) → eqb code 2 ≡ a → (b : Bool) → ltb code 5 ≡ b → (c : Bool) → eqb code 6 ≡ c → old.noted code ls (page h) ≡ page (noted code ls h)
    go true p b q c r = rw p
    go false p true q c r = rw (p, q)
    go false p false q true r = rw (p, q, r)
    go false p false q false r = rw (p, q, r)

noted-kept : (code : ℕ) (ls : List Line) (h : Sheet) → (noted code ls h).kept ≡ h.kept
unfolding noted when◌then◌else◌
noted-kept code ls h = go (eqb code 2) (ltb code 5) (eqb code 6)
  where
    go : (a b c : Bool)
        → (when a then sheet ls [] h.kept else when b then sheet (h.head ++ ls) [] h.kept else when c then sheet h.head ls h.kept
        else sheet h.head (h.own ++ ls) h.kept).kept ≡ h.kept
    go true b c = refl
    go false true c = refl
    go false false true = refl
    go false false false = refl

-- ---- the lines of block n

unfoldable pub nth : ℕ → List Block → List (List Line × List Line) → List Line
nth n [] xs = []
nth n (b ∷ bs) [] = []
nth zero (b ∷ bs) (x ∷ xs) = lines_about b x
nth (suc n) (b ∷ bs) (x ∷ xs) = nth n bs xs

-- from the sheet h on, to the sheet y, the blocks bs were kept, and `find` finds their lines
pub record Finds (find : ℕ → List Line) (h : Sheet) (bs : List Block) (y : Sheet) : Type 0 where
  pub new : List (List Line × List Line)
  pub kept : y.kept ≡ h.kept ++ new
  pub many : length new ≡ length bs
  pub each : (n : ℕ) → find n ≡ nth n bs new

unfoldable pub Fine : {S : Type 0} → (ℕ → List Line) → Sheet → Got (S × Sheet) (List Block) → Type 0
Fine find h (got bs x) = Finds find h bs x.1
Fine find h (refused n p) = Unit {0}

fine-from : {S : Type 0} (find : ℕ → List Line) (h h' : Sheet) (r : Got (S × Sheet) (List Block)) → h.kept ≡ h'.kept → Fine find h r → Fine find h' r
unfolding Fine
fine-from find h h' (got bs x) e f = record {
  new = f.new;
  kept = f.kept ∙ ap (λ (k : List (List Line × List Line)). k ++ f.new) e;
  many = f.many;
  each = f.each;
}
fine-from find h h' (refused n p) e f = tt

-- one more is kept
fine-kept : {S : Type 0} (find rest : ℕ → List Line) (h : Sheet) (b : Block) (r : Got (S × Sheet) (List Block))
    → find 0 ≡ lines_about b (h.head, h.own) → ((n : ℕ) → find (suc n) ≡ rest n) → Fine rest (closed h) r → Fine find h (on r (λ bs y. got (b ∷ bs) y))
unfolding Fine on nth
fine-kept find rest h b (got bs x) here later f = record {
  new = (h.head, h.own) ∷ f.new;
  kept = f.kept ∙ append_assoc h.kept ((h.head, h.own) ∷ []) f.new;
  many = ap suc f.many;
  each = each;
}
  where
    each : (n : ℕ) → find n ≡ nth n (b ∷ bs) ((h.head, h.own) ∷ f.new)
    each zero = here
    each (suc n) = later n ∙ f.each n
fine-kept find rest h b (refused n p) here later f = tt

module _ {S T : Type 0} (W : World S T) where
  module _ (right : (q : Plan) (h : Sheet) (b : Block) → W.ok q h b ≡ true → h.head ++ (clock_line q ∷ h.own) ≡ lines_about b (h.head, h.own)) where
    pub finds : {A : Type 0} (g : Grammar Block A) (rows : ℕ) (q : Plan) (h : Sheet) (t : T)
        → Fine (λ n. found W.tell q (page h) n (watch W.reads g t)) h (traced W rows q h g t)
    unfolding traced on_traced watch on_seen found Fine when◌then◌else◌ nth
    finds {A} (ask f k) rows q h t = go (W.reads f t) (λ a s. finds (k a) rows _ _ s)
      where
        code : ℕ
        code = code_of (moved_on q).role

        next : Answer f → Plan
        next a = after (moved_on q) (heard f a).0 (heard f a).1

        go : (d : Drawn T (Answer f))
            → ((a : Answer f) (s : T) → Fine (λ n. found W.tell (next a) (page (noted code (W.tell code f a t s) h)) n (watch W.reads (k a) s))
            (noted code (W.tell code f a t s) h) (traced W rows (next a) (noted code (W.tell code f a t s) h) (k a) s))
            → Fine (λ n. found W.tell q (page h) n (on_seen f t d (λ a s. watch W.reads (k a) s))) h
            (on_traced d (λ a s. traced W rows (next a) (noted code (W.tell code f a t s) h) (k a) s))
        go (course.got a s) ih =
            let ls = W.tell code f a t s in
            let r = traced W rows (next a) (noted code ls h) (k a) s in
            fine-from _ (noted code ls h) h r (noted-kept code ls h)
            (subst (λ (x : old.Sheet). Fine (λ n. found W.tell (next a) x n (watch W.reads (k a) s)) (noted code ls h) r)
            (sym (noted-same code ls h)) (ih a s))
        go (course.not why) ih = tt
    finds (emit e p x) zero q h t = tt
    finds (emit e p x) (suc rows) q h t = go (W.ok q h e) refl (finds x rows q (closed h) t)
      where
        go : (b : Bool) → W.ok q h e ≡ b → Fine (λ n. found W.tell q (page (closed h)) n (watch W.reads x t)) (closed h) (traced W rows q (closed h) x t)
            → Fine (λ n. found W.tell q (page h) n (watch W.reads (emit e p x) t)) h
            (when b then on (traced W rows q (closed h) x t) (λ es y. got (e ∷ es) y) else refused 0 0)
        go true fine ih = fine-kept _ _ h e (traced W rows q (closed h) x t) (right q h e fine) (λ n. refl) ih
        go false fine ih = tt
    finds (stop n p) rows q h t = tt
    finds (grammar.done a) rows q h t = record { new = []; kept = sym (append-nil h.kept); many = refl; each = λ n. refl }

  module _ (always : (q : Plan) (h : Sheet) (b : Block) → W.ok q h b ≡ true) where
    pub forgets : {A : Type 0} (g : Grammar Block A) (rows : ℕ) (q : Plan) (h : Sheet) (t : T)
        → on (traced W rows q h g t) (λ bs x. got bs x.0) ≡ collect W.view (fit rows (run W.reads g t))
    unfolding traced on_traced on run on_drawn fit collect when◌then◌else◌
    forgets {A} (ask f k) rows q h t = go (W.reads f t) (λ a s. forgets (k a) rows _ _ s)
      where
        code : ℕ
        code = code_of (moved_on q).role

        next : Answer f → Plan
        next a = after (moved_on q) (heard f a).0 (heard f a).1

        go : (d : Drawn T (Answer f))
            → ((a : Answer f) (s : T) → on (traced W rows (next a) (noted code (W.tell code f a t s) h) (k a) s) (λ bs x. got bs x.0)
            ≡ collect W.view (fit rows (run W.reads (k a) s)))
            → on (on_traced d (λ a s. traced W rows (next a) (noted code (W.tell code f a t s) h) (k a) s)) (λ bs x. got bs x.0)
            ≡ collect W.view (fit rows (on_drawn d (λ a s. run W.reads (k a) s)))
        go (course.got a s) ih = ih a s
        go (course.not why) ih = refl
    forgets (emit e p x) zero q h t = refl
    forgets (emit e p x) (suc rows) q h t =
        rw (always q h e) (on-on (traced W rows q (closed h) x t) (λ es y. got (e ∷ es) y) (λ bs x. got bs x.0)
        ∙ sym (on-on (traced W rows q (closed h) x t) (λ bs x. got bs x.0) (λ es s. got (e ∷ es) s))
        ∙ ap (λ r. on r (λ es s. got (e ∷ es) s)) (forgets x rows q (closed h) t))
    forgets (stop n p) rows q h t = refl
    forgets (grammar.done a) rows q h t = refl
