-- A grammar that is read with a plan and a sheet of lines beside it; when a reading that tells means the same as such a grammar, and how such pairs are
-- put together.
use Prim.Native.Nat.{ℕ, zero, suc, ◌-◌}
use mathlib.Core.Path.{◌≡◌, refl, sym, ap, subst, ◌∙◌}
use mathlib.Core.Bool.{Bool, true, false}
use mathlib.Core.List.{List, [], ◌∷◌, ◌++◌, append-nil, append_assoc}
use native.Mathlib.Nat.{sub-zero, suc-sub-suc}
use native.Mathlib.Omega.{arith}
use lib.Dec.{eqb, eqb-suc-zero}
use lib.ListN.{length, length-append}
use Rattle.numbers.specs.Number.{pick}
use Rattle.block.specs.declared.Block.{Block}
use Rattle.grammar.specs.Grammar as grammar
use Rattle.grammar.specs.Grammar.{Field, Answer, Grammar, ask, emit, stop, draw}
use Rattle.grammar.specs.Grammar.{◌>>=◌}
use Rattle.grammar.specs.Course as course
use Rattle.grammar.specs.Course.{Drawn, Reader}
use Rattle.roles.specs.declared.Plan.{Plan}
use Rattle.roles.specs.Roles.{code_of, after, moved_on}
use Rattle.origins.specs.declared.Line.{Line}
use Rattle.telling.specs.Telling.{heard}
use Rattle.meaning.specs.Reads.{when◌then◌else◌, Got, got, refused, Reads, on, done, refuse}
use Rattle.meaning.proofs.Courses.{on-on, on-got, bind-bind, bind_done}
use Rattle.meaning_explain.specs.Explain.{Sheet, sheet, noted}

-- a block's lines are kept
abbrev pub closed : Sheet → Sheet
closed h = sheet h.head h.own (h.kept ++ ((h.head, h.own) ∷ []))

-- a reader of the grammar, how its states are seen, and the lines of a draw; `ok` is asked of each block that is kept, with the plan and the sheet at that
-- time, and `Good` is known of each state
pub record World (S T : Type 0) : Type 1 where
  pub view : T → S
  pub reads : Reader T
  pub tell : ℕ → (f : Field) → Answer f → T → T → List Line
  pub ok : Plan → Sheet → Block → Bool
  pub Good : T → Type 0

unfoldable pub on_traced : {U T X Y : Type 0} → Drawn T X → (X → T → Got U Y) → Got U Y
on_traced (course.got a s) go = go a s
on_traced (course.not why) go = refused why.number why.place

module _ {S T : Type 0} (W : World S T) where
  -- the blocks that are kept, with so many rows, and the sheet behind them
  unfoldable pub traced : {A : Type 0} → ℕ → Plan → Sheet → Grammar Block A → T → Got (S × Sheet) (List Block)
  traced rows q h (ask f k) t =
      let p = moved_on q in
      let role = code_of p.role in
      on_traced (W.reads f t) (λ a s. traced rows (after p (heard f a).0 (heard f a).1) (noted role (W.tell role f a t s) h) (k a) s)
  traced zero q h (emit e p x) t = refused 8 p
  traced (suc rows) q h (emit e p x) t = when W.ok q h e then on (traced rows q (closed h) x t) (λ es y. got (e ∷ es) y) else refused 0 0
  traced rows q h (stop n p) t = refused n p
  traced rows q h (grammar.done a) t = got [] (W.view t, h)

  unfoldable pub told : ℕ → (List Block → List Block) → Plan → Sheet → Grammar Block (Unit {0}) → T → Got (S × Sheet) (List Block)
  told rows post q h g t = on (traced rows q h g t) (λ es x. got (post es) x)

  -- a draw, told for a role
  unfoldable pub told_as : {A : Type 0} (x : Field) → (Answer x → A) → ℕ → T → Sheet → Got (S × Sheet) A
  told_as x seen role t h = on_traced (W.reads x t) (λ a s. got (seen a) (W.view s, noted role (W.tell role x a t s) h))

  -- m is such a draw, from every good state
  abbrev pub Notes : {A : Type 0} → ℕ → (x : Field) → (Answer x → A) → Reads (S × Sheet) A → Type 0
  Notes role x seen m = (t : T) (h : Sheet) → W.Good t → m (W.view t, h) ≡ told_as x seen role t h

  -- where Pre holds of plan and sheet, m gives an a of which P holds; g, which keeps nothing, gives f of it, and Post holds of plan and sheet then
  pub record Same {A B : Type 0} (Pre : Plan → Sheet → Type 0) (P : A → Type 0) (f : A → B) (Post : A → Plan → Sheet → Type 0)
      (m : Reads (S × Sheet) A) (g : Grammar Block B) : Type 0 where
    pub goes : (rows : ℕ) (post : List Block → List Block) (k : A → S × Sheet → Got (S × Sheet) (List Block)) (h : B → Grammar Block (Unit {0}))
        → ((a : A) → P a → (s : T) → W.Good s → (q : Plan) (y : Sheet) → Post a q y → k a (W.view s, y) ≡ told rows post q y (h (f a)) s)
        → (t : T) → W.Good t → (q : Plan) (x : Sheet) → Pre q x → on (m (W.view t, x)) k ≡ told rows post q x (g >>= h) t

  -- m gives what g keeps, with so many rows
  pub record Tells (rows : ℕ) (Pre Post : Plan → Sheet → Type 0) (m : Reads (S × Sheet) (List Block)) (g : Grammar Block (Unit {0})) : Type 0 where
    pub goes : (post : List Block → List Block) (k : List Block → S × Sheet → Got (S × Sheet) (List Block)) (h : Grammar Block (Unit {0}))
        → ((es : List Block) (s : T) → W.Good s → (q : Plan) (y : Sheet) → Post q y
        → k es (W.view s, y) ≡ told (rows - length es) (λ more. post (es ++ more)) q y h s)
        → (t : T) → W.Good t → (q : Plan) (x : Sheet) → Pre q x → on (m (W.view t, x)) k ≡ told rows post q x (g >>= (λ _. h)) t

  -- the same grammar in other words
  reworded : (rows : ℕ) (post : List Block → List Block) (q : Plan) (x : Sheet) (t : T) {g h : Grammar Block (Unit {0})} → g ≡ h
      → told rows post q x g t ≡ told rows post q x h t
  reworded rows post q x t e = ap (λ (g : Grammar Block (Unit {0})). told rows post q x g t) e

  -- a block is kept
  told-kept : (rows : ℕ) (post : List Block → List Block) (q : Plan) (x : Sheet) (e : Block) (p : ℕ) (g : Grammar Block (Unit {0})) (t : T)
      → W.ok q x e ≡ true → told (suc rows) post q x (emit e p g) t ≡ told rows (λ es. post (e ∷ es)) q (closed x) g t
  unfolding told traced when◌then◌else◌ on
  told-kept rows post q x e p g t fine = rw fine (on-on (traced rows q (closed x) g t) _ _)

module _ {S T : Type 0} {W : World S T} where
  -- ---- of what is given

  pub same-done : {A B : Type 0} {Pre : Plan → Sheet → Type 0} {P : A → Type 0} {f : A → B} {Post : A → Plan → Sheet → Type 0} (a : A) → P a
      → ((q : Plan) (x : Sheet) → Pre q x → Post a q x) → Same W Pre P f Post (done a) (grammar.done (f a))
  unfolding on ◌>>=◌
  same-done a p stays = record { goes = λ rows post k h ends t good q x pre. ends a p t good q x (stays q x pre) }

  pub same_stop : {A B : Type 0} {Pre : Plan → Sheet → Type 0} {P : A → Type 0} {f : A → B} {Post : A → Plan → Sheet → Type 0} (n p : ℕ)
      → Same W Pre P f Post (refuse n p) (stop n p)
  unfolding on ◌>>=◌ told traced
  same_stop n p = record { goes = λ rows post k h ends t good q x pre. refl }

  pub same-bind : {A B A' B' : Type 0} {Pre : Plan → Sheet → Type 0} {P : A → Type 0} {f : A → B} {Mid : A → Plan → Sheet → Type 0}
      {P' : A' → Type 0} {f' : A' → B'} {Post : A' → Plan → Sheet → Type 0}
      {m : Reads (S × Sheet) A} {g : Grammar Block B} {n : A → Reads (S × Sheet) A'} (h : B → Grammar Block B')
      → Same W Pre P f Mid m g → ((a : A) → P a → Same W (Mid a) P' f' Post (n a) (h (f a))) → Same W Pre P' f' Post (λ s. on (m s) n) (g >>= h)
  same-bind {m} {g} {n} h x more = record {
    goes = λ rows post k j ends t good q y pre.
        on-on (m (W.view t, y)) n k
        ∙ x.goes rows post (λ a s. on (n a s) k) (λ b. h b >>= j) (λ a p s fine q' z mid. (more a p).goes rows post k j ends s fine q' z mid) t good q y pre
        ∙ reworded W rows post q y t (sym (bind-bind g h j));
  }

  pub same-field : {A : Type 0} {Pre : Plan → Sheet → Type 0} {Post : A → Plan → Sheet → Type 0}
      (role : ℕ) (m : Reads (S × Sheet) A) (x : Field) (f : A → Answer x) (seen : Answer x → A) → ((a : Answer x) → f (seen a) ≡ a)
      → Notes W role x seen m
      → ((a : Answer x) (t s : T) → W.Good t → W.reads x t ≡ course.got a s → W.Good s)
      → ((q : Plan) (y : Sheet) → Pre q y → code_of (moved_on q).role ≡ role)
      → ((q : Plan) (y : Sheet) (a : Answer x) (t s : T) → Pre q y
      → Post (seen a) (after (moved_on q) (heard x a).0 (heard x a).1) (noted role (W.tell role x a t s) y))
      → Same W Pre (λ a. Unit {0}) f Post m (draw x)
  unfolding on ◌>>=◌ told traced on_traced told_as
  same-field {A} {Pre} {Post} role m x f seen back law stays labelled goes = record {
    goes = λ rows post k h ends t good q y pre. rw (law t y good, labelled q y pre) (go rows post k h ends t good q y pre (W.reads x t) refl);
  }
    where
      go : (rows : ℕ) (post : List Block → List Block) (k : A → S × Sheet → Got (S × Sheet) (List Block)) (h : Answer x → Grammar Block (Unit {0}))
          → ((a : A) → Unit {0} → (s : T) → W.Good s → (q : Plan) (y : Sheet) → Post a q y → k a (W.view s, y) ≡ told W rows post q y (h (f a)) s)
          → (t : T) → W.Good t → (q : Plan) (y : Sheet) → Pre q y → (d : Drawn T (Answer x)) → W.reads x t ≡ d
          → on (on_traced d (λ a s. got (seen a) (W.view s, noted role (W.tell role x a t s) y))) k
          ≡ on (on_traced d (λ a s. traced W rows (after (moved_on q) (heard x a).0 (heard x a).1) (noted role (W.tell role x a t s) y) (h a) s))
          (λ es z. got (post es) z)
      go rows post k h ends t good q y pre (course.got a s) e =
          ends (seen a) tt s (stays a t s good e) _ _ (goes q y a t s pre)
          ∙ ap (λ (b : Answer x). told W rows post (after (moved_on q) (heard x a).0 (heard x a).1) (noted role (W.tell role x a t s) y) (h b) s) (back a)
      go rows post k h ends t good q y pre (course.not why) e = refl

  pub same_end : {A B : Type 0} {Pre : Plan → Sheet → Type 0} {P : A → Type 0} {f : A → B} {Post : A → Plan → Sheet → Type 0}
      {m : Reads (S × Sheet) A} (g : Grammar Block B) → Same W Pre P f Post m (g >>= grammar.done) → Same W Pre P f Post m g
  same_end {Pre} {P} {f} {Post} {m} g x = subst (λ (y : Grammar Block _). Same W Pre P f Post m y) (bind_done g) x

  pub same_after : {A B C D : Type 0} {Pre : Plan → Sheet → Type 0} {P : A → Type 0} {f : A → D} {Post : A → Plan → Sheet → Type 0}
      {m : Reads (S × Sheet) A} (x : Grammar Block B) (g : B → Grammar Block C) (h : C → Grammar Block D)
      → Same W Pre P f Post m (x >>= (λ b. g b >>= h)) → Same W Pre P f Post m (x >>= g >>= h)
  same_after {Pre} {P} {f} {Post} {m} x g h y = subst (λ (z : Grammar Block _). Same W Pre P f Post m z) (sym (bind-bind x g h)) y

  -- what the grammar gives, changed
  pub same_then : {A B C : Type 0} {Pre : Plan → Sheet → Type 0} {P : A → Type 0} {f : A → B} {Post : A → Plan → Sheet → Type 0}
      (j : B → C) {m : Reads (S × Sheet) A} {g : Grammar Block B}
      → Same W Pre P f Post m g → Same W Pre P (λ a. j (f a)) Post m (g >>= (λ b. grammar.done (j b)))
  unfolding ◌>>=◌
  same_then j {m} {g} x = record {
    goes = λ rows post k h ends t good q y pre.
        x.goes rows post k (λ b. h (j b)) ends t good q y pre ∙ reworded W rows post q y t (sym (bind-bind g (λ b. grammar.done (j b)) h));
  }

  -- ---- of what is kept

  pub tells-done : {Pre Post : Plan → Sheet → Type 0} (rows : ℕ) → ((q : Plan) (x : Sheet) → Pre q x → Post q x)
      → Tells W rows Pre Post (done []) (grammar.done tt)
  unfolding on ◌>>=◌
  tells-done rows stays = record {
    goes = λ post k h ends t good q x pre.
        ends [] t good q x (stays q x pre) ∙ ap (λ (n : ℕ). told W n post q x h t) (sub-zero rows);
  }

  pub tells-stop : {Pre Post : Plan → Sheet → Type 0} {rows : ℕ} (n p : ℕ) → Tells W rows Pre Post (refuse n p) (stop n p)
  unfolding on ◌>>=◌ told traced
  tells-stop n p = record { goes = λ post k h ends t good q x pre. refl }

  pub tells-if : {Pre Post : Plan → Sheet → Type 0} {rows : ℕ} (b : Bool) {m m' : Reads (S × Sheet) (List Block)} {g g' : Grammar Block (Unit {0})}
      → Tells W rows Pre Post m g → Tells W rows Pre Post m' g' → Tells W rows Pre Post (when b then m else m') (pick b g g')
  unfolding when◌then◌else◌
  tells-if true x y = x
  tells-if false x y = y

  pub tells-from : {Pre Pre' Post : Plan → Sheet → Type 0} {rows : ℕ} {m : Reads (S × Sheet) (List Block)} {g : Grammar Block (Unit {0})}
      → ((q : Plan) (x : Sheet) → Pre' q x → Pre q x) → Tells W rows Pre Post m g → Tells W rows Pre' Post m g
  tells-from from x = record { goes = λ post k h ends t good q y pre. x.goes post k h ends t good q y (from q y pre) }

  pub tells-bind : {A B : Type 0} {Pre Post : Plan → Sheet → Type 0} {P : A → Type 0} {f : A → B} {Mid : A → Plan → Sheet → Type 0}
      {m : Reads (S × Sheet) A} {g : Grammar Block B} {rows : ℕ} {n : A → Reads (S × Sheet) (List Block)} (h : B → Grammar Block (Unit {0}))
      → Same W Pre P f Mid m g → ((a : A) → P a → Tells W rows (Mid a) Post (n a) (h (f a))) → Tells W rows Pre Post (λ s. on (m s) n) (g >>= h)
  tells-bind {m} {g} {rows} {n} h x more = record {
    goes = λ post k j ends t good q y pre.
        on-on (m (W.view t, y)) n k
        ∙ x.goes rows post (λ a s. on (n a s) k) (λ b. h b >>= (λ _. j)) (λ a p s fine q' z mid. (more a p).goes post k j ends s fine q' z mid) t good q y pre
        ∙ reworded W rows post q y t (sym (bind-bind g h (λ _. j)));
  }

  -- refused on a test, before all else
  pub tells-unless : {A B : Type 0} {Pre Post : Plan → Sheet → Type 0} {P : A → Type 0} {f : A → B} {Mid : A → Plan → Sheet → Type 0}
      {m : Reads (S × Sheet) A} {g : Grammar Block B} {rows : ℕ} {k : A → Reads (S × Sheet) (List Block)}
      (b : Bool) (n p : ℕ) (h : B → Grammar Block (Unit {0}))
      → Same W Pre P f Mid m g → ((a : A) → P a → Tells W rows (Mid a) Post (k a) (h (f a)))
      → Tells W rows Pre Post (λ s. on ((when b then refuse n p else m) s) k) (pick b (stop n p) (g >>= h))
  unfolding when◌then◌else◌ on
  tells-unless true n p h x more = tells-stop n p
  tells-unless false n p h x more = tells-bind h x more

  pub tells-after : {A B : Type 0} {Pre Post : Plan → Sheet → Type 0} {rows : ℕ} {m : Reads (S × Sheet) (List Block)}
      (x : Grammar Block A) (g : A → Grammar Block B) (h : B → Grammar Block (Unit {0}))
      → Tells W rows Pre Post m (x >>= (λ a. g a >>= h)) → Tells W rows Pre Post m (x >>= g >>= h)
  tells-after {Pre} {Post} {rows} {m} x g h y = subst (λ (z : Grammar Block (Unit {0})). Tells W rows Pre Post m z) (sym (bind-bind x g h)) y

  pub tells-then : {A B : Type 0} {Pre Post : Plan → Sheet → Type 0} {rows : ℕ} {m : Reads (S × Sheet) (List Block)}
      (x : Grammar Block A) (j : A → B) (h : B → Grammar Block (Unit {0}))
      → Tells W rows Pre Post m (x >>= (λ a. h (j a))) → Tells W rows Pre Post m (x >>= (λ a. grammar.done (j a)) >>= h)
  unfolding ◌>>=◌
  tells-then x j h y = tells-after x (λ a. grammar.done (j a)) h y

  -- no row is left, or one less
  tells-full : {Pre Post : Plan → Sheet → Type 0} (e : Block) (p : ℕ) (g : Grammar Block (Unit {0})) → Tells W 0 Pre Post (refuse 8 p) (emit e p g)
  unfolding on ◌>>=◌ told traced
  tells-full e p g = record { goes = λ post k h ends t good q x pre. refl }

  tells-kept : {Pre Pre' Post : Plan → Sheet → Type 0} {rows : ℕ} {m : Reads (S × Sheet) (List Block)} {g : Grammar Block (Unit {0})}
      (note : Reads (S × Sheet) (Unit {0})) → ((x : S × Sheet) → note x ≡ got tt (x.0, closed x.1))
      → (e : Block) (p : ℕ) → ((q : Plan) (x : Sheet) → Pre q x → (W.ok q x e ≡ true) × Pre' q (closed x))
      → Tells W rows Pre' Post m g → Tells W (suc rows) Pre Post (λ s. on (note s) (λ _ s. on (m s) (λ es. done (e ∷ es)))) (emit e p g)
  unfolding on ◌>>=◌
  tells-kept {rows} {m} {g} note notes e p fine x = record {
    goes = λ post k h ends t good q y pre.
        rw (notes (W.view t, y)) (on-on (m (W.view t, closed y)) (λ es. done (e ∷ es)) k ∙ x.goes (λ es. post (e ∷ es)) (λ es. k (e ∷ es)) h
        (λ es s good q' z mid. ends (e ∷ es) s good q' z mid
        ∙ ap (λ (n : ℕ). told W n (λ more. post (e ∷ (es ++ more))) q' z h s) (suc-sub-suc rows (length es))) t good q (closed y) (fine q y pre).1
        ∙ sym (told-kept W rows post q y e p (g >>= (λ _. h)) t (fine q y pre).0));
  }

  pub tells-room : {Pre Pre' Post : Plan → Sheet → Type 0} (note : Reads (S × Sheet) (Unit {0})) → ((x : S × Sheet) → note x ≡ got tt (x.0, closed x.1))
      → (rows : ℕ) (e : Block) (p : ℕ) (m : ℕ → Reads (S × Sheet) (List Block)) (g : Grammar Block (Unit {0}))
      → ((q : Plan) (x : Sheet) → Pre q x → (W.ok q x e ≡ true) × Pre' q (closed x)) → ((n : ℕ) → Tells W n Pre' Post (m n) g)
      → Tells W rows Pre Post (when eqb rows 0 then refuse 8 p else (λ s. on (note s) (λ _ s. on (m (rows - 1) s) (λ es. done (e ∷ es))))) (emit e p g)
  unfolding when◌then◌else◌
  tells-room note notes zero e p m g fine x = tells-full e p g
  tells-room note notes (suc n) e p m g fine x =
      let less : suc n - 1 ≡ n = omega arith in
      rw (eqb-suc-zero n, less) (tells-kept note notes e p fine (x n))

  -- one after another
  pub tells_both : {Pre Mid Post : Plan → Sheet → Type 0} {rows : ℕ} {m : Reads (S × Sheet) (List Block)} {n : List Block → Reads (S × Sheet) (List Block)}
      {g h : Grammar Block (Unit {0})} → Tells W rows Pre Mid m g → ((es : List Block) → Tells W (rows - length es) Mid Post (n es) h)
      → Tells W rows Pre Post (λ s. on (m s) (λ es s. on (n es s) (λ more. done (es ++ more)))) (g >>= (λ _. h))
  unfolding on
  tells_both {rows} {m} {n} {g} {h} x y = record {
    goes = λ post k j ends t good q z pre.
        on-on (m (W.view t, z)) _ k ∙ x.goes post (λ es s. on (on (n es s) (λ more. done (es ++ more))) k) (h >>= (λ _. j))
        (λ es s good q' z' mid. on-on (n es (W.view s, z')) _ k ∙ (y es).goes (λ more. post (es ++ more)) (λ more. k (es ++ more)) j
        (λ more s good q'' z'' end. ends (es ++ more) s good q'' z'' end ∙ joined post es more q'' z'' j s) s good q' z' mid) t good q z pre
        ∙ reworded W rows post q z t (sym (bind-bind g (λ _. h) (λ _. j)));
  }
    where
      joined : (post : List Block → List Block) (es more : List Block) (q : Plan) (z : Sheet) (j : Grammar Block (Unit {0})) (s : T)
          → told W (rows - length (es ++ more)) (λ rest. post (es ++ more ++ rest)) q z j s
          ≡ told W (rows - length es - length more) (λ rest. post (es ++ (more ++ rest))) q z j s
      joined post es more q z j s =
          let fewer : rows - length (es ++ more) ≡ rows - length es - length more = omega (arith, length-append es more) in
          λ i. told W (fewer i) (λ rest. post (append_assoc es more rest i)) q z j s

  -- all of it
  pub tells_all : {Pre Post : Plan → Sheet → Type 0} {rows : ℕ} {m : Reads (S × Sheet) (List Block)} {g : Grammar Block (Unit {0})}
      → Tells W rows Pre Post m g → (t : T) → W.Good t → (q : Plan) (x : Sheet) → Pre q x → m (W.view t, x) ≡ traced W rows q x g t
  unfolding told traced on
  tells_all {rows} {m} {g} x t good q y pre =
      sym (on-got (m (W.view t, y))) ∙ x.goes (λ es. es) (λ es s. got es s) (grammar.done tt)
      (λ es s good q' z end. ap (λ (l : List Block). got l (W.view s, z)) (sym (append-nil es))) t good q y pre
      ∙ reworded W rows (λ es. es) q y t (bind_done g) ∙ on-got (traced W rows q y g t)
