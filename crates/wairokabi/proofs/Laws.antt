-- What a slice of all, and one from a place to the end, is.
use Prim.Native.Nat.{ℕ, ◌≤◌}
use mathlib.Core.Path.{◌≡◌, sym, ap, ◌∙◌}
use mathlib.Core.List.{List}
use lib.ListN.{length, drop, drop_of_length-le}
use lib.Seq.{slice, slice_empty, take-length}

pub slice-from : (t : List ℕ) (at : ℕ) → slice at (length t) t ≡ drop at t
slice-from t at = ap (drop at) (take-length t)

pub slice-whole : (t : List ℕ) → slice 0 (length t) t ≡ t
slice-whole t = slice-from t 0

pub slice-end : (t : List ℕ) (at : ℕ) → length t ≤ at → slice (length t) (length t) t ≡ drop at t
slice-end t at h = slice_empty (length t) t ∙ sym (drop_of_length-le t h)
