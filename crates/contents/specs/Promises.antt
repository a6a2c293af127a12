-- The promise of `content`: its refusal, and the part that it hands back, as equations of the inputs.
use Rattle.std.specs.Prelude.{ℕ, ◌+◌, ◌≡◌, List, ltb, length, take, drop, Result, Ok, Err}
use Rattle.std.specs.Borrow.{Bor}
use Rattle.numbers.specs.declared.Refusal.{Refusal}
use Rattle.numbers.specs.Number.{pick, none, nowhere}
use Rattle.numbers.specs.Limits.{max_update}
use Rattle.text.specs.declared.Part.{Part}
use Rattle.content.specs.Content.{content_at}
use Rattle.contents.specs.declared.Where.{Where}

-- a refusal: the empty part
unfoldable pub refused_where : Refusal → Where
refused_where why = record { refusal = why; part = record { place = 0; bytes = record { 0 = 0 } } }

unfoldable pub where_found : Result Part Refusal → Where
where_found (Ok p) = record { refusal = none; part = p }
where_found (Err why) = refused_where why

-- the form first (12), then the update's length (3), then what the update has
unfoldable pub where_of : ℕ → List ℕ → ℕ → Where
where_of form u n =
    pick (ltb form 1) (refused_where (nowhere 12))
    (pick (ltb 2 form) (refused_where (nowhere 12))
    (pick (ltb max_update (length u)) (refused_where (nowhere 3)) (where_found (content_at form u n))))

-- what `look` answers for block n of the update u; so does C's `wairokabi_content`
abbrev pub Looks : ℕ → List ℕ → ℕ → Where → Type 0
Looks form u n r = r ≡ where_of form u n

-- the part itself, not a copy: what lies there, and that it points into the update
abbrev pub PartOf : Bor (List ℕ) → Part → Bor (List ℕ) → Type 0
PartOf u p part = (part.now ≡ take p.bytes.0 (drop p.place u.now)) × (part.ref_ptr ≡ (u.ref_ptr.0, p.place + u.ref_ptr.1))

-- what `content` answers for block n of the update u: a refusal and a part
abbrev pub Contents : ℕ → Bor (List ℕ) → ℕ → Refusal → Bor (List ℕ) → Type 0
Contents form u n why part = (why ≡ (where_of form u.now n).refusal) × PartOf u (where_of form u.now n).part part
