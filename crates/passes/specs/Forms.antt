-- A form written, all its lanes at once: the sizes of its lanes, what leads each of them, where they begin, and what is written. Form 1 has one lane
-- and nothing is measured; form 2 has eleven, and all but the last are measured first, since their lengths stand before them. Tokens have their keys
-- as the form has them.
use Rattle.std.specs.Prelude.{ℕ, zero, suc, ◌+◌, Bool, true, false, List, [], ◌∷◌, ltb, eqb, length, get_or}
use Rattle.numbers.specs.Number.{pick, unsigned}
use Rattle.parts.specs.Brim.{brim}
use Rattle.tokens.specs.Tokens.{Token, var, keys, texts, units, rest, whole}
use Rattle.tokens.specs.Lanes.{Lane, fresh_lane, put_all, laid_all}
use Rattle.tokens.specs.Desk.{put_tokens, laid_tokens, closed_each, laid_ends}

-- ---- the lanes of a form

unfoldable pub first_lane : ℕ → ℕ
first_lane form = pick (eqb form 1) whole keys

unfoldable pub lanes_of : ℕ → ℕ
lanes_of form = pick (eqb form 1) 1 11

-- n lanes from lane k on, of which nothing is written, at place 0
unfoldable pub fresh_from : ℕ → ℕ → List Lane
fresh_from k zero = []
fresh_from k (suc n) = fresh_lane k 0 ∷ fresh_from (k + 1) n

-- ---- measured: the ten lanes of form 2 before the rest, once the tokens ts are put

unfoldable pub measured : List Token → List Lane
measured ts = closed_each (put_tokens (fresh_from keys 10) ts)

unfoldable pub places_of : List Lane → List ℕ
places_of [] = []
places_of (e ∷ es) = e.run.at ∷ places_of es

unfoldable pub any_far : List Lane → Bool
any_far [] = false
any_far (e ∷ es) = pick e.far true (any_far es)

-- the sizes, z where none is measured; and whether a difference could not be spelled
unfoldable pub sizes_for : ℕ → List Token → List ℕ → List ℕ
sizes_for form ts z = pick (eqb form 1) z (places_of (measured ts))

unfoldable pub far_for : ℕ → List Token → Bool
far_for form ts = pick (eqb form 1) false (any_far (measured ts))

-- ---- before a lane, the sizes of all being z

-- the text column has its texts, led by their length, and their units
unfoldable pub text_size : List ℕ → ℕ
text_size z =
    pick (ltb (get_or z texts 0) brim)
    (pick (ltb (get_or z units 0) brim) (length (unsigned (get_or z texts 0)) + get_or z texts 0 + get_or z units 0) 0) 0

-- lanes that nothing leads: units, the rest, form 1
unfoldable pub is_bare : ℕ → Bool
is_bare k = pick (eqb k units) true (pick (eqb k rest) true (eqb k whole))

-- the flag before the keys
unfoldable pub lead_tokens : List ℕ → ℕ → List Token
lead_tokens z k =
    pick (is_bare k) []
    (pick (eqb k keys) (var 0 ∷ (var (get_or z k 0) ∷ []))
    (pick (eqb k texts) (var (text_size z) ∷ (var (get_or z k 0) ∷ [])) (var (get_or z k 0) ∷ [])))

-- the place after it, and the bytes lent then
abbrev pub lead_end : List ℕ → ℕ → ℕ → ℕ
lead_end z k at = (put_all (fresh_lane whole at) (lead_tokens z k)).run.at

abbrev pub lead_bytes : List ℕ → List ℕ → ℕ → ℕ → List ℕ
lead_bytes out z k at = laid_all out (fresh_lane whole at) (lead_tokens z k)

-- a size more
unfoldable pub on_to : ℕ → ℕ → ℕ
on_to at size = pick (ltb at brim) (pick (ltb size brim) (at + size) at) at

-- ---- n lanes from lane k on, the first with what leads it from place `at` on, each behind the one before

unfoldable pub begun_from : List ℕ → ℕ → ℕ → ℕ → List Lane
begun_from z k zero at = []
begun_from z k (suc n) at = fresh_lane k (lead_end z k at) ∷ begun_from z (k + 1) n (on_to (lead_end z k at) (get_or z k 0))

unfoldable pub led_from : List ℕ → List ℕ → ℕ → ℕ → ℕ → List ℕ
led_from out z k zero at = out
led_from out z k (suc n) at = led_from (lead_bytes out z k at) z (k + 1) n (on_to (lead_end z k at) (get_or z k 0))

abbrev pub begun : ℕ → List ℕ → List Lane
begun form z = begun_from z (first_lane form) (lanes_of form) 0

abbrev pub led_bytes : ℕ → List ℕ → List ℕ → List ℕ
led_bytes form z out = led_from out z (first_lane form) (lanes_of form) 0

-- ---- written: the tokens ts onto all lanes, the lanes' ends, and then ds, numbers without columns, in line

-- the place of the last lane, which is in line
unfoldable pub last_place : List Lane → ℕ
last_place [] = 0
last_place (e ∷ []) = e.run.at
last_place (e ∷ (f ∷ es)) = last_place (f ∷ es)

abbrev pub line_for : ℕ → List ℕ → List Token → Lane
line_for form z ts = fresh_lane whole (last_place (put_tokens (begun form z) ts))

unfoldable pub end_for : ℕ → List ℕ → List Token → List Token → ℕ
end_for form z ts ds = (put_all (line_for form z ts) ds).run.at

unfoldable pub out_for : ℕ → List ℕ → List Token → List Token → List ℕ → List ℕ
out_for form z ts ds out = laid_all (laid_ends (laid_tokens (led_bytes form z out) (begun form z) ts) (put_tokens (begun form z) ts)) (line_for form z ts) ds
