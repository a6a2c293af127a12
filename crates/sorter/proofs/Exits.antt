-- What the sorter's functions come to: slots in words, and the same against a vector that was read.
use Rattle.std.specs.Prelude.{Ok, Err}
use Prim.Native.Nat.{ℕ, suc, ◌-◌, ◌*◌, ◌/◌, ◌≤◌}
use mathlib.Core.Path.{◌≡◌, refl, sym, ap, subst, ◌∙◌}
use mathlib.Core.List.{List, [], ◌∷◌, ◌++◌}
use native.Mathlib.Omega.{arith}
use lib.ListN.{length, take, replicate, length-replicate}
use Rattle.numbers.specs.declared.Refusal.{Refusal}
use Rattle.numbers.specs.Output.{padded}
use Rattle.block.specs.declared.Block.{Block}
use Rattle.grammar.specs.Course.{Course, things, ending}
use Rattle.vector.specs.Vector.{Entry, clients_in}
use Rattle.vector.specs.VectorInner.{clocks_in, kept}
use Rattle.vector.specs.VectorInner as vector-inner
use Rattle.kept.specs.Plan.{entries_of}
use Rattle.kept.proofs.VectorRead.{was_read, was-refused}
use Rattle.slots.specs.declared.Noted.{Noted}
use Rattle.slots.specs.Slots.{Slot, slots_from, stored, Falling, noted_in, noted_at, noted_all, named_all}
use Rattle.slots.proofs.Words.{stored-slots, stored-length, stored-stored}
use Rattle.slots.proofs.Notes.{noted-all-falling, noted-all-fits, named-all-longer, named-all-fits, named-all-falling}
use Rattle.picker.specs.Fronts.{opened_from, filled_from}
use Rattle.picker.specs.Picker.{Desk, all_picked}
use Rattle.reports.specs.Reports.{counts_from, reaches_from, pending_from, fitted}
use Rattle.sorter.specs.declared.Sorting.{Sorting}
use Rattle.sorter.specs.Sorter.{noted_from, noted_by, slots_for, max_reaches, slot_words, front_words, reaches_at, fronts_at, desk_on, cleared, sorting_of, sorting_on, order_on, counts_on, reaches_on, pending_on}
use Rattle.sorter.specs.Sorter.{no_sorting, sorting_read, order_read, counts_read, reaches_read, pending_read}

-- ---- rows noted, then clients named

noted-count : (most i : ℕ) (bs : List Block) (s : Noted) (ss : List Slot) → s.slots ≡ length ss → (noted_from most i bs s ss).slots ≡ length (noted_all most i bs ss)
unfolding noted_from noted_all noted_at
noted-count most i [] s ss e = e
noted-count most i (b ∷ bs) s ss e = noted-count most (suc i) bs (noted_at most b.client i ss) (noted_in most b.client i ss) refl

module _ (w : List ℕ) (bs : List Block) where
  abbrev most : ℕ
  most = length w / 3

  abbrev noted : List Slot
  noted = noted_all most 0 bs []

  abbrev count : ℕ
  count = (noted_by most bs).slots

  counts : count ≡ length noted
  unfolding noted_by
  counts = noted-count most 0 bs (record { slots = 0; last = 0 }) [] refl

  fits : 3 * length noted ≤ length w
  fits = noted-all-fits w [] (omega arith) 0 bs

  pub here : slots_from (stored w noted) 0 count ≡ noted
  here = rw (counts) (stored-slots w noted)

  size : length (stored w noted) ≡ length w
  size = stored-length w noted fits

  none-falls : Falling []
  unfolding Falling
  none-falls = tt

  pub open-asks : {X : Type 0} → X → (3 * count ≤ length (stored w noted)) × Falling (slots_from (stored w noted) 0 count) × X
  open-asks x = (rw (counts, size) fits, subst Falling (sym here) (noted-all-falling most 0 bs [] none-falls), x)

  module _ (names : List ℕ) where
    abbrev found : List Slot
    found = named_all (length (stored w noted) / 3) names (slots_from (stored w noted) 0 count)

    found-is : found ≡ slots_for most bs names
    unfolding slots_for
    found-is = rw (here, size) refl

    pub open-count : length found ≡ length (slots_for most bs names)
    open-count = ap (λ (ss : List Slot). length ss) found-is

    pub open-words : stored (stored w noted) found ≡ stored w (slots_for most bs names)
    unfolding slots_for
    open-words = ap (stored (stored w noted)) found-is ∙ stored-stored w noted (slots_for most bs names) (named-all-longer most names noted)

    -- what the words hold then
    pub held_fits : 3 * length (slots_for most bs names) ≤ length w
    unfolding slots_for
    held_fits = named-all-fits w noted fits names

    pub held_asks : (3 * length (slots_for most bs names) ≤ length (stored w (slots_for most bs names)))
        × Falling (slots_from (stored w (slots_for most bs names)) 0 (length (slots_for most bs names)))
    unfolding slots_for
    held_asks = (
      rw (stored-length w (slots_for most bs names) held_fits) held_fits,
      subst Falling (sym (stored-slots w (slots_for most bs names))) (named-all-falling most names noted (noted-all-falling most 0 bs [] none-falls)),
    )

-- ---- all looks, and the reports

module _ (rule : ℕ) (ss : List Slot) (rows : List Block) (blocks : ℕ) (v : List Entry) (order counts reaches pending : List ℕ) where
  abbrev desk : Desk
  desk = all_picked rule ss rows blocks (filled_from 0 ss v (replicate max_reaches 0)) (opened_from 0 ss (replicate front_words 0)) order

  pub exit-slots : (sorting_of desk.at (length (counts_from 0 ss desk.fronts)) (length (reaches_from 0 ss desk.reach)) (length (pending_from 0 ss desk.fronts desk.reach))
      ≡ sorting_on rule ss rows blocks v order)
      × (take desk.at.steps desk.order ++ replicate (length desk.order - desk.at.steps) 0 ≡ order_on rule ss rows blocks v order)
      × (fitted (length counts) (counts_from 0 ss desk.fronts) ≡ fitted (length counts) (counts_on rule ss rows blocks v order))
      × (fitted (length reaches) (reaches_from 0 ss desk.reach) ≡ fitted (length reaches) (reaches_on rule ss rows blocks v order))
      × (fitted (length pending) (pending_from 0 ss desk.fronts desk.reach) ≡ fitted (length pending) (pending_on rule ss rows blocks v order))
  unfolding sorting_on order_on cleared counts_on reaches_on pending_on desk_on reaches_at fronts_at
  exit-slots = (refl, refl, refl, refl, refl)

-- ---- the words of slots

module _ (rows : List Block) (blocks : ℕ) (names : List ℕ) where
  abbrev zeros : List ℕ
  zeros = replicate slot_words 0

  abbrev held : List Slot
  held = slots_from (stored zeros (slots_for (length zeros / 3) (take blocks rows) names)) 0 (length (slots_for (length zeros / 3) (take blocks rows) names))

  abbrev slots : List Slot
  slots = slots_for max_reaches (take blocks rows) names

  pub held-is : held ≡ slots
  held-is =
      let e : length zeros / 3 ≡ max_reaches = ap (λ (n : ℕ). n / 3) (length-replicate {A = ℕ} slot_words 0) in
      stored-slots zeros (slots_for (length zeros / 3) (take blocks rows) names) ∙ ap (λ (k : ℕ). slots_for k (take blocks rows) names) e

module _ (rule : ℕ) (rows : List Block) (blocks : ℕ) (names : List ℕ) (v : List Entry) (order counts reaches pending : List ℕ) where
  abbrev in_words : List Slot
  in_words = held rows blocks names

  abbrev wanted : List Slot
  wanted = slots rows blocks names

  abbrev pub Kept : Sorting → List ℕ → List ℕ → List ℕ → List ℕ → Type 0
  Kept r order₁ counts₁ reaches₁ pending₁ =
      (r ≡ sorting_on rule wanted rows blocks v order) × (order₁ ≡ order_on rule wanted rows blocks v order) × (counts₁ ≡ fitted (length counts) (counts_on rule wanted rows blocks v order))
      × (reaches₁ ≡ fitted (length reaches) (reaches_on rule wanted rows blocks v order)) × (pending₁ ≡ fitted (length pending) (pending_on rule wanted rows blocks v order))

  pub exit-kept : Kept (sorting_on rule in_words rows blocks v order) (order_on rule in_words rows blocks v order) (fitted (length counts) (counts_on rule in_words rows blocks v order))
      (fitted (length reaches) (reaches_on rule in_words rows blocks v order)) (fitted (length pending) (pending_on rule in_words rows blocks v order))
  exit-kept = (
    ap (λ (ss : List Slot). sorting_on rule ss rows blocks v order) (held-is rows blocks names),
    ap (λ (ss : List Slot). order_on rule ss rows blocks v order) (held-is rows blocks names),
    ap (λ (ss : List Slot). fitted (length counts) (counts_on rule ss rows blocks v order)) (held-is rows blocks names),
    ap (λ (ss : List Slot). fitted (length reaches) (reaches_on rule ss rows blocks v order)) (held-is rows blocks names),
    ap (λ (ss : List Slot). fitted (length pending) (pending_on rule ss rows blocks v order)) (held-is rows blocks names),
  )

-- ---- a vector that was read, or refused

module _ (c : Course Entry) (m k : ℕ) (e : vector-inner.entries_of c ≡ Ok m) where
  abbrev names : List ℕ
  names = take m (padded k (clients_in (kept c)))

  abbrev entries : List Entry
  entries = entries_of m (padded k (clients_in (kept c))) (padded k (clocks_in (kept c)))

  pub by_read : {X : Type 0} (f : List ℕ → List Entry → X) (g : Refusal → X) → f names entries ≡ ending c (λ s. f (clients_in (things c)) (things c)) g
  by_read f g =
      let r = was_read c m e in
      ap (λ (v : List Entry). f names v) (r.entries k k) ∙ ap (λ (ns : List ℕ). f ns (things c)) (r.clients k)
      ∙ sym (r.ends_so (λ (s : ℕ). f (clients_in (things c)) (things c)) g)

  pub names-fit : m ≤ length (padded k (clients_in (kept c)))
  names-fit = (was_read c m e).room k

module _ (rule : ℕ) (c : Course Entry) (rows : List Block) (blocks : ℕ) (order counts reaches pending : List ℕ) where
  abbrev pub Right : Sorting → List ℕ → List ℕ → List ℕ → List ℕ → Type 0
  Right r order₁ counts₁ reaches₁ pending₁ =
      (r ≡ sorting_read rule c rows blocks order) × (order₁ ≡ order_read rule c rows blocks order) × (counts₁ ≡ counts_read rule c rows blocks order counts)
      × (reaches₁ ≡ reaches_read rule c rows blocks order reaches) × (pending₁ ≡ pending_read rule c rows blocks order pending)

  module _ (m k : ℕ) (e : vector-inner.entries_of c ≡ Ok m) where
    abbrev slots_of : List ℕ → List Slot
    slots_of ns = slots_for max_reaches (take blocks rows) ns

    abbrev named : List Slot
    named = slots_of (names c m k e)

    abbrev read : List Entry
    read = entries c m k e

    pub exit_read : Right (sorting_on rule named rows blocks read order) (order_on rule named rows blocks read order)
        (fitted (length counts) (counts_on rule named rows blocks read order)) (fitted (length reaches) (reaches_on rule named rows blocks read order))
        (fitted (length pending) (pending_on rule named rows blocks read order))
    unfolding sorting_read order_read counts_read reaches_read pending_read
    exit_read = (
      by_read c m k e (λ ns v. sorting_on rule (slots_of ns) rows blocks v order) (λ why. no_sorting why.number),
      by_read c m k e (λ ns v. order_on rule (slots_of ns) rows blocks v order) (λ why. order),
      by_read c m k e (λ ns v. fitted (length counts) (counts_on rule (slots_of ns) rows blocks v order)) (λ why. counts),
      by_read c m k e (λ ns v. fitted (length reaches) (reaches_on rule (slots_of ns) rows blocks v order)) (λ why. reaches),
      by_read c m k e (λ ns v. fitted (length pending) (pending_on rule (slots_of ns) rows blocks v order)) (λ why. pending),
    )

  pub exit-refused : (why : Refusal) → vector-inner.entries_of c ≡ Err why → Right (no_sorting why.number) order counts reaches pending
  unfolding sorting_read order_read counts_read reaches_read pending_read
  exit-refused why e = (
    sym (was-refused c why e _ (λ r. no_sorting r.number)),
    sym (was-refused c why e _ (λ r. order)),
    sym (was-refused c why e _ (λ r. counts)),
    sym (was-refused c why e _ (λ r. reaches)),
    sym (was-refused c why e _ (λ r. pending)),
  )
