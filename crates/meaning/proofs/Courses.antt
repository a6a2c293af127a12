-- When a reading and a grammar mean the same, whatever is read after them; and how such pairs are put together.
use Prim.Native.Nat.{ℕ, zero, suc, ◌-◌}
use mathlib.Core.Path.{◌≡◌, refl, sym, ap, subst, ◌∙◌}
use mathlib.Core.Bool.{Bool, true, false}
use mathlib.Core.List.{List, [], ◌∷◌, ◌++◌, append-nil, append_assoc}
use native.Mathlib.Nat.{sub-zero, suc-sub-suc}
use native.Mathlib.Omega.{arith}
use lib.Dec.{eqb, eqb-suc-zero}
use lib.ListN.{length, length-append}
use Rattle.numbers.specs.Number.{pick}
use Rattle.grammar.specs.Grammar as grammar
use Rattle.grammar.specs.Grammar.{Field, Answer, Grammar, ask, emit, stop, draw}
use Rattle.grammar.specs.Grammar.{◌>>=◌}
use Rattle.grammar.specs.Course as course
use Rattle.grammar.specs.Course.{Drawn, Reader, CourseTo, thing, on_drawn, run, fit}
use Rattle.meaning.specs.Reads.{when◌then◌else◌, Got, got, refused, Reads, on, done, refuse}
use Rattle.meaning.specs.Alike.{drawn_as, collect}

-- ---- one after another

pub on-on : {S T U A B C : Type 0} (x : Got S A) (f : A → S → Got T B) (g : B → T → Got U C) → on (on x f) g ≡ on x (λ a s. on (f a s) g)
unfolding on
on-on (got a s) f g = refl
on-on (refused n p) f g = refl

pub on-got : {S A : Type 0} (x : Got S A) → on x (λ a s. got a s) ≡ x
unfolding on
on-got (got a s) = refl
on-got (refused n p) = refl

pub bind-bind : {E A B C : Type 0} (x : Grammar E A) (g : A → Grammar E B) (h : B → Grammar E C) → x >>= g >>= h ≡ x >>= (λ a. g a >>= h)
unfolding ◌>>=◌
bind-bind (ask f k) g h = λ i. ask f (λ a. bind-bind (k a) g h i)
bind-bind (emit e p x) g h = ap (emit e p) (bind-bind x g h)
bind-bind (stop n p) g h = refl
bind-bind (grammar.done a) g h = refl

pub bind_done : {E A : Type 0} (x : Grammar E A) → x >>= grammar.done ≡ x
unfolding ◌>>=◌
bind_done (ask f k) = λ i. ask f (λ a. bind_done (k a) i)
bind_done (emit e p x) = ap (emit e p) (bind_done x)
bind_done (stop n p) = refl
bind_done (grammar.done a) = refl

-- ---- what a course comes to, with so many rows, and then so much made of what it keeps

module _ {S T E : Type 0} (view : T → S) where
  unfoldable pub told : ℕ → (List E → List E) → CourseTo T E (Unit {0}) → Got S (List E)
  told rows post c = on (collect view (fit rows c)) (λ es s. got (post es) s)

  pub told-thing : (rows : ℕ) (post : List E → List E) (e : E) (p : ℕ) (c : CourseTo T E (Unit {0}))
      → told (suc rows) post (thing e p c) ≡ told rows (λ es. post (e ∷ es)) c
  unfolding told fit collect on
  told-thing rows post e p c = on-on (collect view (fit rows c)) _ _

  pub told-all : (rows : ℕ) (c : CourseTo T E (Unit {0})) → told rows (λ es. es) c ≡ collect view (fit rows c)
  unfolding told
  told-all rows c = on-got (collect view (fit rows c))

-- ---- a reading and a grammar

module _ {S T E : Type 0} (view : T → S) (R : Reader T) where
  -- the same grammar in other words
  reworded : (rows : ℕ) (post : List E → List E) (t : T) {g h : Grammar E (Unit {0})} → g ≡ h
      → told view rows post (run R g t) ≡ told view rows post (run R h t)
  reworded rows post t e = ap (λ (g : Grammar E (Unit {0})). told view rows post (run R g t)) e

  -- of what m gives P holds, and g, which keeps nothing, gives f of it
  pub record Same {A B : Type 0} (P : A → Type 0) (f : A → B) (m : Reads S A) (g : Grammar E B) : Type 0 where
    pub goes : (rows : ℕ) (post : List E → List E) (k : A → S → Got S (List E)) (h : B → Grammar E (Unit {0}))
        → ((a : A) → P a → (s : T) → k a (view s) ≡ told view rows post (run R (h (f a)) s))
        → (t : T) → on (m (view t)) k ≡ told view rows post (run R (g >>= h) t)

  -- m gives what g keeps, with so many rows
  pub record Tells (rows : ℕ) (m : Reads S (List E)) (g : Grammar E (Unit {0})) : Type 0 where
    pub goes : (post : List E → List E) (k : List E → S → Got S (List E)) (h : Grammar E (Unit {0}))
        → ((es : List E) (s : T) → k es (view s) ≡ told view (rows - length es) (λ more. post (es ++ more)) (run R h s))
        → (t : T) → on (m (view t)) k ≡ told view rows post (run R (g >>= (λ _. h)) t)

module _ {S T E : Type 0} {view : T → S} {R : Reader T} where
  -- ---- of what is given

  pub same-done : {A B : Type 0} {P : A → Type 0} {f : A → B} (a : A) → P a → Same {E = E} view R P f (done a) (grammar.done (f a))
  unfolding on ◌>>=◌
  same-done a p = record { goes = λ rows post k h ends t. ends a p t }

  pub same_stop : {A B : Type 0} {P : A → Type 0} {f : A → B} (n p : ℕ) → Same {E = E} view R P f (refuse n p) (stop n p)
  unfolding on ◌>>=◌ run told fit collect
  same_stop n p = record { goes = λ rows post k h ends t. refl }

  pub same_if : {A B : Type 0} {P : A → Type 0} {f : A → B} (b : Bool) {m m' : Reads S A} {g g' : Grammar E B}
      → Same view R P f m g → Same view R P f m' g' → Same view R P f (when b then m else m') (pick b g g')
  unfolding when◌then◌else◌
  same_if true x y = x
  same_if false x y = y

  pub same-bind : {A B A' B' : Type 0} {P : A → Type 0} {f : A → B} {P' : A' → Type 0} {f' : A' → B'}
      {m : Reads S A} {g : Grammar E B} {n : A → Reads S A'} (h : B → Grammar E B')
      → Same view R P f m g → ((a : A) → P a → Same view R P' f' (n a) (h (f a))) → Same view R P' f' (λ s. on (m s) n) (g >>= h)
  same-bind {m} {g} {n} h x more = record {
    goes = λ rows post k j ends t.
        on-on (m (view t)) n k ∙ x.goes rows post (λ a s. on (n a s) k) (λ b. h b >>= j) (λ a p s. (more a p).goes rows post k j ends s) t
        ∙ reworded view R rows post t (sym (bind-bind g h j));
  }

  pub same-field : {A : Type 0} (m : Reads S A) (x : Field) (f : A → Answer x) (seen : Answer x → A) → ((a : Answer x) → f (seen a) ≡ a)
      → ((t : T) → m (view t) ≡ drawn_as seen view (R x t)) → Same {E = E} view R (λ a. Unit {0}) f m (draw x)
  unfolding on ◌>>=◌ run on_drawn drawn_as told fit collect
  same-field {A} m x f seen back alike = record { goes = λ rows post k h ends t. rw (alike t) (go rows post k h ends (R x t)) }
    where
      go : (rows : ℕ) (post : List E → List E) (k : A → S → Got S (List E)) (h : Answer x → Grammar E (Unit {0}))
          → ((a : A) → Unit {0} → (s : T) → k a (view s) ≡ told view rows post (run R (h (f a)) s))
          → (d : Drawn T (Answer x)) → on (drawn_as seen view d) k ≡ told view rows post (on_drawn d (λ a s. run R (h a) s))
      go rows post k h ends (course.got a s) = ends (seen a) tt s ∙ ap (λ (b : Answer x). told view rows post (run R (h b) s)) (back a)
      go rows post k h ends (course.not why) = refl

  pub same_end : {A B : Type 0} {P : A → Type 0} {f : A → B} {m : Reads S A} (g : Grammar E B)
      → Same view R P f m (g >>= grammar.done) → Same view R P f m g
  same_end {P} {f} {m} g x = subst (λ (y : Grammar E _). Same view R P f m y) (bind_done g) x

  pub same_after : {A B C D : Type 0} {P : A → Type 0} {f : A → D} {m : Reads S A} (x : Grammar E B) (g : B → Grammar E C) (h : C → Grammar E D)
      → Same view R P f m (x >>= (λ b. g b >>= h)) → Same view R P f m (x >>= g >>= h)
  same_after {P} {f} {m} x g h y = subst (λ (z : Grammar E _). Same view R P f m z) (sym (bind-bind x g h)) y

  -- what the grammar gives, changed
  pub same_then : {A B C : Type 0} {P : A → Type 0} {f : A → B} (j : B → C) {m : Reads S A} {g : Grammar E B}
      → Same view R P f m g → Same view R P (λ a. j (f a)) m (g >>= (λ b. grammar.done (j b)))
  unfolding ◌>>=◌
  same_then j {m} {g} x = record {
    goes = λ rows post k h ends t.
        x.goes rows post k (λ b. h (j b)) ends t ∙ reworded view R rows post t (sym (bind-bind g (λ b. grammar.done (j b)) h));
  }

  -- ---- of what is kept

  pub tells-done : (rows : ℕ) → Tells {E = E} view R rows (done []) (grammar.done tt)
  unfolding on ◌>>=◌
  tells-done rows = record { goes = λ post k h ends t. ends [] t ∙ ap (λ (n : ℕ). told view n post (run R h t)) (sub-zero rows) }

  pub tells-stop : {rows : ℕ} (n p : ℕ) → Tells {E = E} view R rows (refuse n p) (stop n p)
  unfolding on ◌>>=◌ run told fit collect
  tells-stop n p = record { goes = λ post k h ends t. refl }

  pub tells-if : {rows : ℕ} (b : Bool) {m m' : Reads S (List E)} {g g' : Grammar E (Unit {0})}
      → Tells view R rows m g → Tells view R rows m' g' → Tells view R rows (when b then m else m') (pick b g g')
  unfolding when◌then◌else◌
  tells-if true x y = x
  tells-if false x y = y

  pub tells-bind : {A B : Type 0} {P : A → Type 0} {f : A → B} {m : Reads S A} {g : Grammar E B} {rows : ℕ} {n : A → Reads S (List E)}
      (h : B → Grammar E (Unit {0}))
      → Same view R P f m g → ((a : A) → P a → Tells view R rows (n a) (h (f a))) → Tells view R rows (λ s. on (m s) n) (g >>= h)
  tells-bind {m} {g} {rows} {n} h x more = record {
    goes = λ post k j ends t.
        on-on (m (view t)) n k ∙ x.goes rows post (λ a s. on (n a s) k) (λ b. h b >>= (λ _. j)) (λ a p s. (more a p).goes post k j ends s) t
        ∙ reworded view R rows post t (sym (bind-bind g h (λ _. j)));
  }

  -- refused on a test, before all else
  pub tells-unless : {A B : Type 0} {P : A → Type 0} {f : A → B} {m : Reads S A} {g : Grammar E B} {rows : ℕ} {k : A → Reads S (List E)}
      (b : Bool) (n p : ℕ) (h : B → Grammar E (Unit {0}))
      → Same view R P f m g → ((a : A) → P a → Tells view R rows (k a) (h (f a)))
      → Tells view R rows (λ s. on ((when b then refuse n p else m) s) k) (pick b (stop n p) (g >>= h))
  unfolding when◌then◌else◌ on
  tells-unless true n p h x more = tells-stop n p
  tells-unless false n p h x more = tells-bind h x more

  pub tells-after : {A B : Type 0} {rows : ℕ} {m : Reads S (List E)} (x : Grammar E A) (g : A → Grammar E B) (h : B → Grammar E (Unit {0}))
      → Tells view R rows m (x >>= (λ a. g a >>= h)) → Tells view R rows m (x >>= g >>= h)
  tells-after {rows} {m} x g h y = subst (λ (z : Grammar E (Unit {0})). Tells view R rows m z) (sym (bind-bind x g h)) y

  pub tells-then : {A B : Type 0} {rows : ℕ} {m : Reads S (List E)} (x : Grammar E A) (j : A → B) (h : B → Grammar E (Unit {0}))
      → Tells view R rows m (x >>= (λ a. h (j a))) → Tells view R rows m (x >>= (λ a. grammar.done (j a)) >>= h)
  unfolding ◌>>=◌
  tells-then x j h y = tells-after x (λ a. grammar.done (j a)) h y

  -- no row is left, or one less
  tells-full : (e : E) (p : ℕ) (g : Grammar E (Unit {0})) → Tells view R 0 (refuse 8 p) (emit e p g)
  unfolding on ◌>>=◌ run told fit collect
  tells-full e p g = record { goes = λ post k h ends t. refl }

  tells-kept : {rows : ℕ} {m : Reads S (List E)} {g : Grammar E (Unit {0})} (e : E) (p : ℕ)
      → Tells view R rows m g → Tells view R (suc rows) (λ s. on (m s) (λ es. done (e ∷ es))) (emit e p g)
  unfolding on ◌>>=◌ run
  tells-kept {rows} {m} {g} e p x = record {
    goes = λ post k h ends t.
        on-on (m (view t)) (λ es. done (e ∷ es)) k ∙ x.goes (λ es. post (e ∷ es)) (λ es. k (e ∷ es)) h
        (λ es s. ends (e ∷ es) s ∙ ap (λ (n : ℕ). told view n (λ more. post (e ∷ (es ++ more))) (run R h s)) (suc-sub-suc rows (length es))) t
        ∙ sym (told-thing view rows post e p (run R (g >>= (λ _. h)) t));
  }

  -- behind what gives nothing and stays where it is
  tells-noted : {rows : ℕ} {m : Reads S (List E)} {g : Grammar E (Unit {0})} (note : Reads S (Unit {0})) → ((t : T) → note (view t) ≡ got tt (view t))
      → Tells view R rows m g → Tells view R rows (λ s. on (note s) (λ _. m)) g
  unfolding on
  tells-noted note stays x = record { goes = λ post k j ends t. rw (stays t) (x.goes post k j ends t) }

  pub tells-room : (note : Reads S (Unit {0})) → ((t : T) → note (view t) ≡ got tt (view t))
      → (rows : ℕ) (e : E) (p : ℕ) (m : ℕ → Reads S (List E)) (g : Grammar E (Unit {0})) → ((n : ℕ) → Tells view R n (m n) g)
      → Tells view R rows (when eqb rows 0 then refuse 8 p else (λ s. on (note s) (λ _ s. on (m (rows - 1) s) (λ es. done (e ∷ es))))) (emit e p g)
  unfolding when◌then◌else◌
  tells-room note stays zero e p m g x = tells-full e p g
  tells-room note stays (suc n) e p m g x =
      let less : suc n - 1 ≡ n = omega arith in
      rw (eqb-suc-zero n, less) (tells-noted note stays (tells-kept e p (x n)))

  -- one after another
  pub tells_both : {rows : ℕ} {m : Reads S (List E)} {n : List E → Reads S (List E)} {g h : Grammar E (Unit {0})}
      → Tells view R rows m g → ((es : List E) → Tells view R (rows - length es) (n es) h)
      → Tells view R rows (λ s. on (m s) (λ es s. on (n es s) (λ more. done (es ++ more)))) (g >>= (λ _. h))
  unfolding on
  tells_both {rows} {m} {n} {g} {h} x y = record {
    goes = λ post k j ends t.
        on-on (m (view t)) _ k ∙ x.goes post (λ es s. on (on (n es s) (λ more. done (es ++ more))) k) (h >>= (λ _. j))
        (λ es s. on-on (n es (view s)) _ k ∙ (y es).goes (λ more. post (es ++ more)) (λ more. k (es ++ more)) j
        (λ more s. ends (es ++ more) s ∙ joined post es more (run R j s)) s) t
        ∙ reworded view R rows post t (sym (bind-bind g (λ _. h) (λ _. j)));
  }
    where
      joined : (post : List E → List E) (es more : List E) (c : CourseTo T E (Unit {0}))
          → told view (rows - length (es ++ more)) (λ rest. post (es ++ more ++ rest)) c
          ≡ told view (rows - length es - length more) (λ rest. post (es ++ (more ++ rest))) c
      joined post es more c =
          let fewer : rows - length (es ++ more) ≡ rows - length es - length more = omega (arith, length-append es more) in
          λ i. told view (fewer i) (λ rest. post (append_assoc es more rest i)) c

  -- all of it
  pub tells_all : {rows : ℕ} {m : Reads S (List E)} {g : Grammar E (Unit {0})}
      → Tells view R rows m g → (t : T) → m (view t) ≡ collect view (fit rows (run R g t))
  unfolding run told fit collect on
  tells_all {rows} {m} {g} x t =
      sym (on-got (m (view t))) ∙ x.goes (λ es. es) (λ es s. got es s) (grammar.done tt)
      (λ es s. ap (λ (l : List E). got l (view s)) (sym (append-nil es))) t
      ∙ reworded view R rows (λ es. es) t (bind_done g) ∙ told-all view rows (run R g t)
