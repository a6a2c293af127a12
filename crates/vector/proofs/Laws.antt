-- What the readers of a state vector keep: the entries seen so far, and what is still to come of the vector, make the same answer as at the
-- start.
use Rattle.std.specs.Prelude.{Result, Ok, Err}
use Prim.Native.Nat.{ℕ, suc, ◌+◌, ◌-◌, ◌*◌, ◌≤◌, ◌<◌}
use mathlib.Core.Path.{◌≡◌, refl, sym, ap, ◌∙◌}
use mathlib.Core.List.{List, [], ◌∷◌, ◌++◌, append_assoc, append-nil}
use mathlib.Core.Bool.{Bool, true, false}
use native.Mathlib.Numerals.{add-one}
use native.Mathlib.Nat.{sub-zero}
use native.Mathlib.Omega.{arith}
use lib.Dec.{ltb}
use lib.ListN.{length, take, get_or, set, replicate, length-append, length-set, length-map}
use lib.Seq.{take-suc, take-suc-set, length-take-le, take-append_seam}
use borrow.Author.Tests.{lt-ltb, le-ltb, ltb-false}
use Rattle.numbers.specs.declared.Refusal.{Refusal}
use Rattle.numbers.specs.declared.Read.{Read as Reading}
use Rattle.numbers.specs.declared.Read.TheVariants as read
use Rattle.numbers.specs.Number.{pick, none}
use Rattle.numbers.specs.NumberInner.{why_read}
use Rattle.numbers.specs.Words.{among}
use Rattle.numbers.specs.Limits.{max_clients, max_value, max_clock}
use Rattle.numbers.specs.Output.{padded}
use Rattle.numbers.proofs.Output.{padded-some}
use Rattle.grammar.specs.Grammar.{Grammar}
use Rattle.grammar.specs.Grammar.{◌>>=◌}
use Rattle.grammar.specs.Course.{Drawn, got, not, Course, thing, over, stopped, on_drawn, run, things, ending}
use Rattle.decoder.specs.Line.{number_at, bounded, up_to, number_by, line}
use Rattle.vector.specs.Vector.{Entry, entry, clients_in, holds, entries, a_vector, vector_of, words_in, refused_vector, vector_answer, vector_words}
use Rattle.vector.specs.VectorInner.{clocks_in, entries_of, kept, count_in, Filled, joined}

-- ---- a number by its place, and its field

module _ (at : ℕ) (r : Reading) (d : Drawn ℕ (ℕ × ℕ)) (h : d ≡ number_at at r) where
  pub drew : (v e : ℕ) → r ≡ read.Number v e → d ≡ got (v, at) e
  unfolding number_at
  drew v e q = h ∙ ap (number_at at) q

  pub drew-not : (why w : Refusal) → r ≡ read.Refused why → w ≡ why_read r → d ≡ not w
  unfolding number_at
  drew-not why w q s = h ∙ ap (number_at at) q ∙ ap not (sym (s ∙ ap why_read q))

pub bounded-low : (most : ℕ) (d : Drawn ℕ (ℕ × ℕ)) (a : ℕ × ℕ) (s : ℕ) → bounded most d ≡ got a s → a.0 ≤ most
unfolding bounded
bounded-low most (not why) a s e = absurd (let z : ◌≡◌ {A = ℕ} 0 1 = cc in omega arith)
bounded-low most (got b t) a s e = go (ltb most b.0) refl e
  where
    go : (x : Bool) → ltb most b.0 ≡ x → pick x (not (record { number = 3; place = b.1 })) (got b t) ≡ got a s → a.0 ≤ most
    go true l e = absurd (let z : ◌≡◌ {A = ℕ} 0 1 = cc in omega arith)
    go false l e = let q : b.0 ≡ a.0 = cc in omega (arith, ltb-false most b.0 l)

-- ---- an entry

-- n entries more, after those seen
abbrev pub more : List ℕ → ℕ → List Entry → ℕ → Course Entry
more v n seen at = run (line 1 v) (entries n seen) at

-- of two ways on, the one that is chosen
chosen : (v : List ℕ) (x y : Grammar Entry (Unit {0})) (s : ℕ) (b c : Bool) → b ≡ c → run (line 1 v) (pick b x y) s ≡ pick c (run (line 1 v) x s) (run (line 1 v) y s)
chosen v x y s b true e = ap (λ (b : Bool). run (line 1 v) (pick b x y) s) e
chosen v x y s b false e = ap (λ (b : Bool). run (line 1 v) (pick b x y) s) e

module _ (v : List ℕ) (n : ℕ) (seen : List Entry) (at : ℕ) where
  pub no-client : (why : Refusal) → up_to max_value v at ≡ not why → more v (suc n) seen at ≡ stopped why
  unfolding entries ◌>>=◌ run on_drawn line number_by
  no-client why h = rw h refl

  module _ (c t : ℕ) (h : up_to max_value v at ≡ got (c, at) t) where
    pub twice : among c (clients_in seen) ≡ true → more v (suc n) seen at ≡ stopped (record { number = 4; place = at })
    unfolding entries holds ◌>>=◌ run on_drawn line number_by
    twice s = rw h (chosen v _ _ t _ true s)

    pub no-clock : among c (clients_in seen) ≡ false → (why : Refusal) → up_to max_clock v t ≡ not why → more v (suc n) seen at ≡ stopped why
    unfolding entries holds ◌>>=◌ run on_drawn line number_by
    no-clock s why k = rw h (chosen v _ _ t _ false s ∙ rw k refl)

    pub one_more : among c (clients_in seen) ≡ false → (k e : ℕ) → up_to max_clock v t ≡ got (k, t) e
        → more v (suc n) seen at ≡ thing (entry c k) at (more v n (seen ++ (entry c k ∷ [])) e)
    unfolding entries holds ◌>>=◌ run on_drawn line number_by
    one_more s k e q = rw h (chosen v _ _ t _ false s ∙ rw q refl)

-- ---- what is read, where some are seen already: how many or why not, and all of them or none

pub record Told : Type 0 where
  pub answer : Result ℕ Refusal
  pub all : List Entry

abbrev telling : Result ℕ Refusal → List Entry → Told
telling r es = record { answer = r; all = es }

unfoldable pub told : List Entry → Course Entry → Told
told seen c = ending c (λ s. telling (Ok (length (seen ++ things c))) (seen ++ things c)) (λ why. telling (Err why) [])

told-item : (seen : List Entry) (e : Entry) (p : ℕ) (c : Course Entry) → told seen (thing e p c) ≡ told (seen ++ (e ∷ [])) c
unfolding told ending things
told-item seen e p c = ap (λ (es : List Entry). ending c (λ s. telling (Ok (length es)) es) (λ why. telling (Err why) [])) (sym (append_assoc seen (e ∷ []) (things c)))

told_over : (v : List ℕ) (seen : List Entry) (at : ℕ) → told seen (more v 0 seen at) ≡ telling (Ok (length seen)) seen
unfolding told entries run ending things
told_over v seen at = rw append-nil

told-apart : (r : Result ℕ Refusal) (es : List Entry) (c : Course Entry)
    → ending c (λ s. telling r es) (λ why. telling (Err why) []) ≡ telling (ending c (λ s. r) (λ why. Err why)) (ending c (λ s. es) (λ why. []))
unfolding ending
told-apart r es (thing e p c) = told-apart r es c
told-apart r es (over a s) = refl
told-apart r es (stopped why) = refl

-- the words that hold what is read
filled : (v : List ℕ) (r : Result ℕ Refusal) (es : List Entry) (xs ys : List ℕ) → told [] (vector_of v) ≡ telling r es → count_in r ≤ max_clients
    → take (count_in r) xs ≡ clients_in es → take (count_in r) ys ≡ clocks_in es → Filled v r xs ys
unfolding told entries_of kept
filled v r es xs ys h few p q =
    let c = vector_of v in
    let a : telling (entries_of c) (kept c) ≡ telling r es = sym (told-apart (Ok (length (things c))) (things c) c) ∙ h in
    let all : es ≡ kept c = sym (ap (λ (x : Told). x.all) a) in
    record { answer = sym (ap (λ (x : Told). x.answer) a); few = few; clients = p ∙ ap clients_in all; clocks = q ∙ ap clocks_in all }

pub clients-more : (seen : List Entry) (e : Entry) → clients_in (seen ++ (e ∷ [])) ≡ clients_in seen ++ (e.client ∷ [])
clients-more [] e = refl
clients-more (x ∷ seen) e = ap (λ (cs : List ℕ). x.client ∷ cs) (clients-more seen e)

clocks-more : (seen : List Entry) (e : Entry) → clocks_in (seen ++ (e ∷ [])) ≡ clocks_in seen ++ (e.clock ∷ [])
clocks-more [] e = refl
clocks-more (x ∷ seen) e = ap (λ (ks : List ℕ). x.clock ∷ ks) (clocks-more seen e)

-- ---- the announced count

module _ (v : List ℕ) where
  pub none_read : (why : Refusal) (xs ys : List ℕ) → up_to max_clients v 0 ≡ not why → Filled v (Err why) xs ys
  unfolding told vector_of a_vector ◌>>=◌ run on_drawn line number_by ending
  none_read why xs ys h = filled v (Err why) [] xs ys (rw h refl) (omega arith) refl refl

  pub few : (n e : ℕ) → up_to max_clients v 0 ≡ got (n, 0) e → n ≤ max_clients
  unfolding up_to
  few n e h = bounded-low max_clients _ (n, 0) e h

-- ---- the loop over the entries: i of n are seen, and stand in xs and ys

pub record ReadTo (v : List ℕ) (n i at : ℕ) (xs ys : List ℕ) : Type 0 where
  pub seen : List Entry
  pub here : i ≤ n
  pub size : length seen ≡ i
  pub clients : take i xs ≡ clients_in seen
  pub clocks : take i ys ≡ clocks_in seen
  pub same : told [] (vector_of v) ≡ told seen (more v (n - i) seen at)

pub read-begin : (v : List ℕ) (n e : ℕ) (xs ys : List ℕ) → up_to max_clients v 0 ≡ got (n, 0) e → ReadTo v n 0 e xs ys
unfolding vector_of a_vector ◌>>=◌ run on_drawn line number_by
read-begin v n e xs ys h = record { seen = []; here = omega arith; size = refl; clients = refl; clocks = refl; same = rw (h, sub-zero) refl }

module _ (v : List ℕ) (n i at : ℕ) (xs ys : List ℕ) (t : ReadTo v n i at xs ys) where
  left : i < n → told [] (vector_of v) ≡ told t.seen (more v (suc (n - (i + 1))) t.seen at)
  left h = let e : n - i ≡ suc (n - (i + 1)) = omega arith in t.same ∙ ap (λ (j : ℕ). told t.seen (more v j t.seen at)) e

  pub read-on : (c k p e : ℕ) → i < n → i < length xs → i < length ys
      → more v (suc (n - (i + 1))) t.seen at ≡ thing (entry c k) p (more v (n - (i + 1)) (t.seen ++ (entry c k ∷ [])) e)
      → ReadTo v n (i + 1) e (set xs i c) (set ys i k)
  read-on c k p e h lx ly q = record {
    seen = t.seen ++ (entry c k ∷ []);
    here = omega arith;
    size = length-append t.seen (entry c k ∷ []) ∙ ap (λ (j : ℕ). j + 1) t.size;
    clients = rw (add-one, take-suc-set xs i c lx, t.clients) (sym (clients-more t.seen (entry c k)));
    clocks = rw (add-one, take-suc-set ys i k ly, t.clocks) (sym (clocks-more t.seen (entry c k)));
    same = left h ∙ ap (told t.seen) q ∙ told-item t.seen (entry c k) p _;
  }

  pub read-stop : (why : Refusal) → i < n → more v (suc (n - (i + 1))) t.seen at ≡ stopped why → Filled v (Err why) xs ys
  unfolding told ending
  read-stop why h q = filled v (Err why) [] xs ys (left h ∙ ap (told t.seen) q) (omega arith) refl refl

  pub read-over : n ≤ i → n ≤ max_clients → Filled v (Ok i) xs ys
  read-over h l =
      let z : n - i ≡ 0 = omega arith in
      let e = t.same ∙ ap (λ (j : ℕ). told t.seen (more v j t.seen at)) z ∙ told_over v t.seen at in
      filled v (Ok i) t.seen xs ys (e ∙ ap (λ (j : ℕ). telling (Ok j) t.seen) t.size) (omega (arith, t.here)) t.clients t.clocks

-- ---- the words

joined-more : (xs ys : List ℕ) (a b : ℕ) → length xs ≡ length ys → joined (xs ++ (a ∷ [])) (ys ++ (b ∷ [])) ≡ joined xs ys ++ (a ∷ (b ∷ []))
unfolding joined
joined-more [] [] a b e = refl
joined-more [] (y ∷ ys) a b e = absurd (omega arith)
joined-more (x ∷ xs) [] a b e = absurd (omega arith)
joined-more (x ∷ xs) (y ∷ ys) a b e = ap (λ (ws : List ℕ). x ∷ (y ∷ ws)) (joined-more xs ys a b (omega arith))

-- one entry more
pub joined-on : (out xs ys : List ℕ) (at i : ℕ) → at + 1 < length out → i < length xs → i < length ys → take at out ≡ joined (take i xs) (take i ys)
    → take (at + 2) (set (set out at (get_or xs i 0)) (at + 1) (get_or ys i 0)) ≡ joined (take (i + 1) xs) (take (i + 1) ys)
joined-on out xs ys at i lo lx ly e =
    let a = get_or xs i 0 in
    let b = get_or ys i 0 in
    let two : at + 2 ≡ suc (at + 1) = omega arith in
    let room : at + 1 < length (set out at a) = rw (length-set out at a) lo in
    let second : take (at + 2) (set (set out at a) (at + 1) b) ≡ take (at + 1) (set out at a) ++ (b ∷ []) = rw two (take-suc-set (set out at a) (at + 1) b room) in
    let first : take (at + 1) (set out at a) ≡ take at out ++ (a ∷ []) = rw add-one (take-suc-set out at a (omega arith)) in
    second ∙ ap (λ (ws : List ℕ). ws ++ (b ∷ [])) (first ∙ ap (λ (ws : List ℕ). ws ++ (a ∷ [])) e) ∙ append_assoc (joined (take i xs) (take i ys)) (a ∷ []) (b ∷ [])
    ∙ sym (joined-more (take i xs) (take i ys) a b (length-take-le i xs (omega arith) ∙ sym (length-take-le i ys (omega arith))))
    ∙ rw (add-one, take-suc xs i 0 lx, take-suc ys i 0 ly)

pub joined-none : (ys : List ℕ) → [] ≡ joined [] ys
unfolding joined
joined-none ys = refl

joined-all : (es : List Entry) → joined (clients_in es) (clocks_in es) ≡ words_in es
unfolding joined words_in
joined-all [] = refl
joined-all (e ∷ es) = ap (λ (ws : List ℕ). e.client ∷ (e.clock ∷ ws)) (joined-all es)

-- what stands first is there before the zeros
take-padded : (n m : ℕ) (xs : List ℕ) → m ≡ length xs → take m (padded n xs) ≡ xs
unfolding padded
take-padded n m xs e = rw e (take-append_seam xs (replicate (n - length xs) 0))

pub joined-padded : (es : List Entry) (n j k : ℕ) → n ≡ length es → joined (take n (padded j (clients_in es))) (take n (padded k (clocks_in es))) ≡ words_in es
joined-padded es n j k e =
    ap (λ (xs : List ℕ). joined xs (take n (padded k (clocks_in es)))) (take-padded j n (clients_in es) (e ∙ sym (length-map es (λ (e : Entry). e.client))))
    ∙ ap (λ (ys : List ℕ). joined (clients_in es) ys) (take-padded k n (clocks_in es) (e ∙ sym (length-map es (λ (e : Entry). e.clock)))) ∙ joined-all es

-- what is cleared from n on
pub cleared : (e mid xs : List ℕ) (n m : ℕ) → n ≡ m → m ≤ length mid → length mid ≡ length e → take m mid ≡ xs
    → take n mid ++ replicate (length mid - n) 0 ≡ padded (length e) xs
cleared e mid xs n m p h l t = rw p (padded-some mid m h ∙ rw (l, t))

-- ---- what a course comes to, where the number of its entries is known

module _ {X : Type 0} (x : X) (f : Refusal → X) (n : ℕ) where
  ends-refused : (c : Course Entry) (why : Refusal) → ending c (λ s. Ok n) (λ why. Err why) ≡ Err why → ending c (λ s. x) f ≡ f why
  unfolding ending
  ends-refused (thing e p c) why h = ends-refused c why h
  ends-refused (over a s) why h = absurd (let z : ◌≡◌ {A = ℕ} 0 1 = cc in omega arith)
  ends-refused (stopped w) why h = cc

  ends_read : (c : Course Entry) (m : ℕ) → ending c (λ s. Ok n) (λ why. Err why) ≡ Ok m → (m ≡ n) × (ending c (λ s. x) f ≡ x)
  unfolding ending
  ends_read (thing e p c) m h = ends_read c m h
  ends_read (over a s) m h = (cc, refl)
  ends_read (stopped w) m h = absurd (let z : ◌≡◌ {A = ℕ} 0 1 = cc in omega arith)

module _ (c : Course Entry) where
  pub refused-answer : (room : ℕ) (why : Refusal) → entries_of c ≡ Err why → (vector_answer room c ≡ refused_vector why.number) × (vector_words room c ≡ padded room [])
  unfolding entries_of vector_answer vector_words
  refused-answer room why h = (ends-refused _ _ (length (things c)) c why h, ap (padded room) (ends-refused _ _ (length (things c)) c why h))

  pub read_count : (n : ℕ) → entries_of c ≡ Ok n → (n ≡ length (things c)) × (kept c ≡ things c)
  unfolding entries_of kept
  read_count n h = ends_read (things c) (λ why. []) (length (things c)) c n h

  pub read_short : (room n : ℕ) → entries_of c ≡ Ok n → room < 2 * n → (vector_answer room c ≡ refused_vector 10) × (vector_words room c ≡ padded room [])
  unfolding entries_of vector_answer vector_words
  read_short room n h l =
      let m = (read_count n h).0 in
      let t = lt-ltb room (2 * length (things c)) (omega arith) in
      ((ends_read _ _ (length (things c)) c n h).1 ∙ rw t, ap (padded room) ((ends_read _ _ (length (things c)) c n h).1 ∙ rw t))

  pub read_done : (room n : ℕ) → entries_of c ≡ Ok n → 2 * n ≤ room → (vector_answer room c ≡ record { refusal = none; count = n }) × (vector_words room c ≡ padded room (words_in (kept c)))
  unfolding entries_of vector_answer vector_words
  read_done room n h l =
      let m = read_count n h in
      let t = le-ltb room (2 * length (things c)) (omega arith) in
      ((ends_read _ _ (length (things c)) c n h).1 ∙ rw (t, m.0), ap (padded room) ((ends_read _ _ (length (things c)) c n h).1 ∙ rw (t, m.1)))
