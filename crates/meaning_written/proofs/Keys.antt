-- That form 2 numbers keys as it always has, and that as many find no room.
use Prim.Native.Nat.{ℕ, suc}
use mathlib.Core.Path.{◌≡◌, refl, ap}
use mathlib.Core.Bool.{Bool, true, false, ◌&&◌}
use mathlib.Core.List.{List, [], ◌∷◌, ◌++◌}
use lib.Dec.{ltb, eqb}
use lib.ListN.{length}
use Rattle.tokens.specs.Tokens as tokens
use Rattle.tokens.specs.Tokens.{Token}
use Rattle.tokens.specs.Keys as keys
use Rattle.tokens.specs.Keys.{remembered, by_number}
use Rattle.meaning.specs.Reads.{when◌then◌else◌}
use Rattle.meaning_written.specs.Diff.{Put, key, same, number_of, numbered, crowded}
use Rattle.meaning_written.proofs.Kept.{alike}
use Rattle.meaning_written.proofs.Puts.{lane_of, Are, a-number, a-text, a_key, a-var, a-buf, a-value, some-values, none, more}

same-same : (a b : List ℕ) → keys.same a b ≡ same a b
unfolding keys.same same
same-same [] [] = refl
same-same [] (c ∷ d) = refl
same-same (b ∷ e) [] = refl
same-same (b ∷ e) (c ∷ d) = ap (λ (x : Bool). eqb b c && x) (same-same e d)

number_same : (b : List ℕ) (ks : List (List ℕ)) → keys.number_of b ks ≡ number_of b ks
unfolding keys.number_of number_of
number_same b [] = refl
number_same b (k ∷ ks) = rw (same-same b k) (alike (same b k) refl (ap suc (number_same b ks)))

-- a key: it was put down, or it is one of the first 256 and is remembered, or not
module _ (ks : List (List ℕ)) (b : List ℕ) (n : ℕ) (ts : List Token) (ps : List Put) where
  abbrev known : Bool
  known = ltb (number_of b ks) (length ks)

  abbrev fits : Bool
  fits = ltb (length ks) 256

  key-numbered : ((ls : List (List ℕ)) → Are (keys.numbered ls ts) (numbered ls ps)) → Are (keys.numbered ks (tokens.key b n ∷ ts)) (numbered ks (key b n ∷ ps))
  unfolding keys.numbered by_number remembered numbered when◌then◌else◌ lane_of
  key-numbered on = go known refl fits refl
    where
      go : (x : Bool) → known ≡ x → (y : Bool) → fits ≡ y → Are (keys.numbered ks (tokens.key b n ∷ ts)) (numbered ks (key b n ∷ ps))
      go true e y f = rw (number_same b ks, e) (more (a-number 0 (number_of b ks)) (on ks))
      go false e true f = rw (number_same b ks, e, f) (more (a-number 0 (number_of b ks)) (more (a-text b n) (on (ks ++ (b ∷ [])))))
      go false e false f = rw (number_same b ks, e, f) (more (a-number 0 (number_of b ks)) (more (a-text b n) (on ks)))

  key-crowded : ((ls : List (List ℕ)) → keys.crowded ls ts ≡ crowded ls ps) → keys.crowded ks (tokens.key b n ∷ ts) ≡ crowded ks (key b n ∷ ps)
  unfolding keys.crowded remembered crowded when◌then◌else◌
  key-crowded on = go known refl fits refl
    where
      go : (x : Bool) → known ≡ x → (y : Bool) → fits ≡ y → keys.crowded ks (tokens.key b n ∷ ts) ≡ crowded ks (key b n ∷ ps)
      go true e y f = rw (number_same b ks, e) (on ks)
      go false e true f = rw (number_same b ks, e, f) (on (ks ++ (b ∷ [])))
      go false e false f = rw (number_same b ks, e, f)

pub numbered-same : (ks : List (List ℕ)) {ts : List Token} {ps : List Put} → Are ts ps → Are (keys.numbered ks ts) (numbered ks ps)
unfolding keys.numbered numbered
numbered-same ks none = none
numbered-same ks (more {ts} {ps} (a_key b n) r) = key-numbered ks b n ts ps (λ ls. numbered-same ls r)
numbered-same ks (more (a-number k v) r) = more (a-number k v) (numbered-same ks r)
numbered-same ks (more (a-text b n) r) = more (a-text b n) (numbered-same ks r)
numbered-same ks (more (a-var v) r) = more (a-var v) (numbered-same ks r)
numbered-same ks (more (a-buf b) r) = more (a-buf b) (numbered-same ks r)
numbered-same ks (more (a-value b) r) = more (a-value b) (numbered-same ks r)
numbered-same ks (more (some-values b) r) = more (some-values b) (numbered-same ks r)

pub crowded-same : (ks : List (List ℕ)) {ts : List Token} {ps : List Put} → Are ts ps → keys.crowded ks ts ≡ crowded ks ps
unfolding keys.crowded crowded
crowded-same ks none = refl
crowded-same ks (more {ts} {ps} (a_key b n) r) = key-crowded ks b n ts ps (λ ls. crowded-same ls r)
crowded-same ks (more (a-number k v) r) = crowded-same ks r
crowded-same ks (more (a-text b n) r) = crowded-same ks r
crowded-same ks (more (a-var v) r) = crowded-same ks r
crowded-same ks (more (a-buf b) r) = crowded-same ks r
crowded-same ks (more (a-value b) r) = crowded-same ks r
crowded-same ks (more (some-values b) r) = crowded-same ks r
