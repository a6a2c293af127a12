-- What reading is: from a place, or wherever else it stands, a value and where it stands then; or a refusal.
use Rattle.std.specs.Prelude.{ℕ, Bool, true, false}
use Rattle.numbers.specs.declared.Refusal.{Refusal}

infix 5 when◌then◌else◌
unfoldable pub when◌then◌else◌ : {A : Type 0} → Bool → A → A → A
when◌then◌else◌ true a b = a
when◌then◌else◌ false a b = b

-- a refusal has its number, and the byte that it blames
pub data Got (S A : Type 0) : Type 0 where
  got : A → S → Got S A
  refused : ℕ → ℕ → Got S A

abbrev pub Reads : Type 0 → Type 0 → Type 0
Reads S A = S → Got S A

-- go on with what was got
unfoldable pub on : {S T A B : Type 0} → Got S A → (A → S → Got T B) → Got T B
on (got a s) f = f a s
on (refused n p) f = refused n p

-- one reading, then another
infixl 10 ◌>>=◌
abbrev pub ◌>>=◌ : {S A B : Type 0} → Reads S A → (A → Reads S B) → Reads S B
◌>>=◌ m f = λ s. on (m s) f

abbrev pub done : {S A : Type 0} → A → Reads S A
done a = λ s. got a s

abbrev pub refuse : {S A : Type 0} → ℕ → ℕ → Reads S A
refuse n p = λ s. refused n p

abbrev pub here : {S : Type 0} → Reads S S
here = λ s. got s s

-- what was got, or what a refusal comes to
unfoldable pub comes_to : {S A B : Type 0} → (A → S → B) → (Refusal → B) → Got S A → B
comes_to read refuse (got a s) = read a s
comes_to read refuse (refused n p) = refuse (record { number = n; place = p })
