-- The plan of all rows: the section of each client that keeps any, put in its place as the client's rows end.
use Prim.Native.Nat.{ℕ, suc, ◌+◌, ◌*◌, ◌≤◌, ◌<◌}
use mathlib.Core.Path.{◌≡◌, refl, sym, ap, subst, ◌∙◌}
use mathlib.Core.Logic.{◌≢◌}
use mathlib.Core.Bool.{Bool, true, false}
use mathlib.Core.List.{List, [], ◌∷◌, ◌++◌}
use native.Mathlib.Omega.{arith}
use lib.Dec.{eqb}
use lib.ListN.{length, length-append}
use borrow.Author.Tests.{ne_eqb}
use Rattle.numbers.specs.Number.{pick}
use Rattle.block.specs.declared.Block.{Block}
use Rattle.vector.specs.Vector.{Entry}
use Rattle.readings.specs.Sound.{All}
use Rattle.readings.specs.SoundInner.{Ordered}
use Rattle.readings.specs.Groups.{groups, Distinct}
use Rattle.readings.specs.GroupsInner.{joined, Single, clients}
use Rattle.readings.proofs.Groups.{all_map, groups-joined, groups-single, ordered-distinct}
use Rattle.parts.specs.Brim.{brim}
use Rattle.kept.specs.declared.plan.Planning.{Planning}
use Rattle.kept.specs.Kept.{remote, falls, client_of}
use Rattle.kept.specs.Plan.{Planned, planned_from, placed, unplanned, ended_words, ended_count, begun, grown, continues, plan_step, plan_words, plan_all, plan_all_words}
use Rattle.kept.proofs.Words.{has_room, with-planned, with-length}
use Rattle.kept.proofs.SectionsRun.{run, Same, Under, grown-under, one-step, run-same, state_of, planned_at, plan_one, torn_one, format_one, done_of, or, or-none, run-done}

-- ---- the plan, client by client

unfoldable pub plan_each : List ℕ → List Entry → ℕ → List (List Block) → List Planned
plan_each u v i [] = []
plan_each u v i ([] ∷ gs) = plan_each u v i gs
plan_each u v i ((b ∷ g) ∷ gs) = plan_one u b.client (remote v b.client) i (b ∷ g) ++ plan_each u v (i + suc (length g)) gs

unfoldable pub torn_each : List ℕ → List Entry → List (List Block) → Bool
torn_each u v [] = false
torn_each u v ([] ∷ gs) = torn_each u v gs
torn_each u v ((b ∷ g) ∷ gs) = or (torn_one u (remote v b.client) (b ∷ g)) (torn_each u v gs)

unfoldable pub format_each : List Entry → List (List Block) → Bool
format_each v [] = false
format_each v ([] ∷ gs) = format_each v gs
format_each v ((b ∷ g) ∷ gs) = or (format_one (remote v b.client) (b ∷ g)) (format_each v gs)

-- put in one after the other
unfoldable pub inserted : List Planned → List Planned → List Planned
inserted [] l = l
inserted (p ∷ ps) l = inserted ps (placed p l)

inserted-none : (l : List Planned) → inserted [] l ≡ l
unfolding inserted
inserted-none l = refl

inserted-append : (ps qs l : List Planned) → inserted (ps ++ qs) l ≡ inserted qs (inserted ps l)
unfolding inserted
inserted-append [] qs l = refl
inserted-append (p ∷ ps) qs l = inserted-append ps qs (placed p l)

-- one section of this client at most
unfoldable pub One : ℕ → List Planned → Type 0
One c [] = Unit {0}
One c (p ∷ []) = (p.client ≡ c) × (0 < p.count)
One c (p ∷ q ∷ l) = ⊥

one-length : (c : ℕ) (l : List Planned) → One c l → length l ≤ 1
unfolding One
one-length c [] h = omega arith
one-length c (p ∷ []) h = omega arith
one-length c (p ∷ q ∷ l) h = absurd h

plan-one : (u : List ℕ) (c k i : ℕ) (g : List Block) → One c (plan_one u c k i g)
unfolding plan_one One
plan-one u c k i [] = tt
plan-one u c k i (b ∷ g) = go (plan-one u c k (i + 1) g) (falls k b)
  where
    go : One c (plan_one u c k (i + 1) g) → (t : Bool)
        → One c (pick t (plan_one u c k (i + 1) g) (planned_at u c k i b g ∷ []))
    go on true = on
    go on false = (refl, omega arith)

-- ---- where a client's rows end

-- its section planned too, there are n sections, the words are so many and say these
pub record Ends (w : List ℕ) (s : Planning) (z n : ℕ) (l : List Planned) : Type 0 where
  pub count : ended_count w s ≡ n
  pub size : length (ended_words w s) ≡ z
  pub list : planned_from (ended_words w s) 0 n ≡ l

module _ (w : List ℕ) (n : ℕ) (torn formats : Bool) (k : ℕ) (room : 5 * (n + 1) ≤ length w) where
  ends-one : (p : Planned) → 0 < p.count
      → Ends w (state_of n torn formats p.client k p.first p.count p.from p.skip) (length w) (n + 1) (placed p (planned_from w 0 n))
  unfolding ended_count ended_words
  ends-one p pos =
      let some : eqb p.count 0 ≡ false = ne_eqb p.count 0 (λ e. omega arith) in
      let fits = has_room w n (omega arith) in
      record { count = rw (some, fits); size = rw some (with-length w n p room); list = rw some (with-planned w n p room) }

  ends-done : (c : ℕ) (l : List Planned) → One c l → Ends w (done_of n torn formats c k l) (length w) (n + length l) (inserted l (planned_from w 0 n))
  unfolding One inserted ended_count ended_words
  ends-done c [] h = record { count = none; size = refl; list = ap (planned_from w 0) (sym none) }
    where
      none : n ≡ n + 0
      none = omega arith
  ends-done c (p ∷ []) h =
      subst (λ (d : ℕ). Ends w (state_of n torn formats d k p.first p.count p.from p.skip) (length w) (n + 1) (placed p (planned_from w 0 n))) h.0
      (ends-one p h.1)
  ends-done c (p ∷ q ∷ l) h = absurd h

done-under : (n : ℕ) (torn formats : Bool) (c k : ℕ) (l : List Planned) → Under c (done_of n torn formats c k l)
done-under n torn formats c k [] = (refl, refl)
done-under n torn formats c k (p ∷ l) = (refl, refl)

done-torn : (n : ℕ) (torn formats : Bool) (c k : ℕ) (l : List Planned) → (done_of n torn formats c k l).torn ≡ torn
done-torn n torn formats c k [] = refl
done-torn n torn formats c k (p ∷ l) = refl

done-formats : (n : ℕ) (torn formats : Bool) (c k : ℕ) (l : List Planned) → (done_of n torn formats c k l).formats ≡ formats
done-formats n torn formats c k [] = refl
done-formats n torn formats c k (p ∷ l) = refl

-- ---- where rows of another client come next

abbrev Apart : Planning → ℕ → Type 0
Apart s c = pick s.going (eqb s.client c) false ≡ false

under-apart : (c : ℕ) (s : Planning) (d : ℕ) → Under c s → d ≢ c → Apart s d
under-apart c s d h n = rw h.0 (ne_eqb s.client d (λ e. n (sym e ∙ h.1)))

module _ (u : List ℕ) (v : List Entry) (w : List ℕ) (s : Planning) (i : ℕ) (b : Block) (apart : Apart s b.client) where
  next-words : plan_words w s b ≡ ended_words w s
  unfolding plan_words continues
  next-words = rw apart

  next-state : (n : ℕ) → ended_count w s ≡ n → plan_step u v w s i b ≡ grown u (begun n s.torn s.formats b.client (remote v b.client)) i b
  unfolding plan_step continues
  next-state n e = rw (apart, e)

  -- all rows of it
  group-same : (n : ℕ) → ended_count w s ≡ n → (g rest : List Block) → All (λ (d : Block). d.client ≡ b.client) g
      → Same u v w (ended_words w s) s (run u (begun n s.torn s.formats b.client (remote v b.client)) i (b ∷ g)) i (i + suc (length g)) (b ∷ (g ++ rest)) rest
  unfolding run
  group-same n e g rest all =
      let c = b.client in
      let begins = begun n s.torn s.formats c (remote v c) in
      let w' = ended_words w s in
      let one = one-step u v w w' s (grown u begins i b) i b (g ++ rest) next-words (next-state n e) in
      let on = run-same u v w' c (grown u begins i b) (i + 1) g rest (grown-under u c begins i b (refl, refl)) all in
      record {
        state = one.state ∙ on.state ∙ ap (λ (j : ℕ). plan_all u v w' (run u (grown u begins i b) (i + 1) g) j rest) next;
        words = one.words ∙ on.words ∙ ap (λ (j : ℕ). plan_all_words u v w' (run u (grown u begins i b) (i + 1) g) j rest) next;
      }
    where
      next : i + 1 + length g ≡ i + suc (length g)
      next = omega arith

-- ---- all rows

pub record Comes (w : List ℕ) (s : Planning) (z n : ℕ) (l : List Planned) (t f : Bool) : Type 0 where
  pub ends : Ends w s z n l
  pub torn : s.torn ≡ t
  pub formats : s.formats ≡ f

comes-by : (w w' : List ℕ) (s s' : Planning) (z n n' : ℕ) (l l' : List Planned) (t t' f f' : Bool) → w ≡ w' → s ≡ s' → n ≡ n' → l ≡ l'
    → t ≡ t' → f ≡ f' → Comes w' s' z n' l' t' f' → Comes w s z n l t f
comes-by w w' s s' z n n' l l' t t' f f' p q r x y z' h = rw (p, q, r, x, y, z') h

or_assoc : (a b c : Bool) → or (or a b) c ≡ or a (or b c)
or_assoc true b c = refl
or_assoc false b c = refl

module _ (u : List ℕ) (v : List Entry) where
  none-words : (w : List ℕ) (s : Planning) (i : ℕ) → plan_all_words u v w s i [] ≡ w
  unfolding plan_all_words
  none-words w s i = refl

  none-state : (w : List ℕ) (s : Planning) (i : ℕ) → plan_all u v w s i [] ≡ s
  unfolding plan_all
  none-state w s i = refl

  ends_on : (w : List ℕ) (s : Planning) (z n : ℕ) (l ps : List Planned) → length w ≡ z → planned_from w 0 n ≡ l
      → Ends w s (length w) (n + length ps) (inserted ps (planned_from w 0 n)) → Ends w s z (n + length ps) (inserted ps l)
  ends_on w s z n l ps p q e = record { count = e.count; size = e.size ∙ p; list = e.list ∙ ap (inserted ps) q }

  each-comes : (gs : List (List Block)) (w : List ℕ) (s : Planning) (i z n : ℕ) (l : List Planned) → All (Single client_of) gs → Distinct (clients client_of gs)
      → All (Apart s) (clients client_of gs) → length (joined gs) ≤ brim → 5 * (n + length gs) ≤ z → Ends w s z n l
      → Comes (plan_all_words u v w s i (joined gs)) (plan_all u v w s i (joined gs)) z (n + length (plan_each u v i gs)) (inserted (plan_each u v i gs) l)
      (or s.torn (torn_each u v gs)) (or s.formats (format_each v gs))
  unfolding joined plan_each torn_each format_each Single clients Distinct
  each-comes [] w s i z n l single distinct apart brimmed room ends =
      comes-by (plan_all_words u v w s i []) w (plan_all u v w s i []) s z (n + 0) n (inserted [] l) l (or s.torn false) s.torn
      (or s.formats false) s.formats (none-words w s i) (none-state w s i)
      (omega arith) (inserted-none l) (or-none s.torn) (or-none s.formats) (record { ends = ends; torn = refl; formats = refl })
  each-comes ([] ∷ gs) w s i z n l single distinct apart brimmed room ends = absurd single.0
  each-comes ((b ∷ g) ∷ gs) w s i z n l single distinct apart brimmed room ends =
      let c = b.client in
      let k = remote v c in
      let w' = ended_words w s in
      let j = i + suc (length g) in
      let ps = plan_one u c k i (b ∷ g) in
      let qs = plan_each u v j gs in
      let begins = run u (begun n s.torn s.formats c k) i (b ∷ g) in
      let torn = or s.torn (torn_one u k (b ∷ g)) in
      let formats = or s.formats (format_one k (b ∷ g)) in
      let done = done_of n torn formats c k ps in
      let is : begins ≡ done = run-done u n c k s.torn s.formats i (b ∷ g) (omega (arith, length-append g (joined gs))) in
      let same = group-same u v w s i b apart.0 n ends.count g (joined gs) single.0 in
      let one = plan-one u c k i (b ∷ g) in
      let ends_now = ends_on w' done z n l ps ends.size ends.list (ends-done w' n torn formats k (omega (arith, ends.size)) c ps one) in
      let others = all_map (λ (d : ℕ). d ≢ c) (Apart done) (λ d ne. under-apart c done d (done-under n torn formats c k ps) ne) (clients client_of gs) distinct.0 in
      let on = each-comes gs w' done j z (n + length ps) (inserted ps l) single.1 distinct.1 others (omega (arith, length-append g (joined gs)))
      (omega (arith, one-length c ps one)) ends_now in
      comes-by (plan_all_words u v w s i (b ∷ (g ++ joined gs))) (plan_all_words u v w' done j (joined gs)) (plan_all u v w s i (b ∷ (g ++ joined gs)))
      (plan_all u v w' done j (joined gs)) z (n + length (ps ++ qs)) (n + length ps + length qs) (inserted (ps ++ qs) l) (inserted qs (inserted ps l))
      (or s.torn (or (torn_one u k (b ∷ g)) (torn_each u v gs))) (or done.torn (torn_each u v gs))
      (or s.formats (or (format_one k (b ∷ g)) (format_each v gs))) (or done.formats (format_each v gs))
      (same.words ∙ ap (λ (x : Planning). plan_all_words u v w' x j (joined gs)) is) (same.state ∙ ap (λ (x : Planning). plan_all u v w' x j (joined gs)) is)
      (omega (arith, length-append ps qs)) (inserted-append ps qs l)
      (sym (or_assoc s.torn (torn_one u k (b ∷ g)) (torn_each u v gs)) ∙ ap (λ (x : Bool). or x (torn_each u v gs)) (sym (done-torn n torn formats c k ps)))
      (sym (or_assoc s.formats (format_one k (b ∷ g)) (format_each v gs)) ∙ ap (λ (x : Bool). or x (format_each v gs)) (sym (done-formats n torn formats c k ps))) on

  -- from the first row on
  module _ (w : List ℕ) (bs : List Block) (ordered : Ordered bs) (brimmed : length bs ≤ brim) (room : 5 * length (groups client_of bs) ≤ length w) where
    first-apart : (cs : List ℕ) → All (Apart unplanned) cs
    first-apart [] = tt
    first-apart (c ∷ cs) = (refl, first-apart cs)

    first_ends : Ends w unplanned (length w) 0 []
    unfolding ended_count ended_words planned_from
    first_ends = record { count = refl; size = refl; list = refl }

    pub rows-come : Comes (plan_all_words u v w unplanned 0 bs) (plan_all u v w unplanned 0 bs) (length w) (length (plan_each u v 0 (groups client_of bs)))
        (inserted (plan_each u v 0 (groups client_of bs)) []) (torn_each u v (groups client_of bs)) (format_each v (groups client_of bs))
    rows-come =
        let gs = groups client_of bs in
        let is : bs ≡ joined gs = sym (groups-joined client_of bs) in
        let ps = plan_each u v 0 gs in
        comes-by (plan_all_words u v w unplanned 0 bs) (plan_all_words u v w unplanned 0 (joined gs)) (plan_all u v w unplanned 0 bs)
        (plan_all u v w unplanned 0 (joined gs)) (length w) (length ps) (0 + length ps) (inserted ps []) (inserted ps []) (torn_each u v gs) (torn_each u v gs)
        (format_each v gs) (format_each v gs) (ap (plan_all_words u v w unplanned 0) is) (ap (plan_all u v w unplanned 0) is) (omega arith) refl refl refl
        (each-comes gs w unplanned 0 (length w) 0 [] (groups-single client_of bs) (ordered-distinct bs ordered) (first-apart (clients client_of gs))
        (omega (arith, ap length is)) (omega arith) first_ends)
