-- Lists gone through with a test, and lists filled up.
use Rattle.std.specs.Prelude.{ℕ, ◌+◌, ◌-◌, Bool, List, [], ◌∷◌, ◌++◌, length, replicate}
use Rattle.prelude.specs.Choice.{pick, bit}

-- those for which the test holds, in order
unfoldable pub such : {A : Type 0} → (A → Bool) → List A → List A
such p [] = []
such p (x ∷ xs) = pick (p x) (x ∷ such p xs) (such p xs)

-- how many they are
unfoldable pub count : {A : Type 0} → (A → Bool) → List A → ℕ
count p [] = 0
count p (x ∷ xs) = bit (p x) + count p xs

-- so many places: the values, and z behind them
abbrev pub padded : {A : Type 0} → ℕ → A → List A → List A
padded n z xs = xs ++ replicate (n - length xs) z
