-- Facts of all elements of lists that are mapped.
use Rattle.std.proofs.Common.{List, [], ◌∷◌, map}
use Rattle.std.specs.Prelude.{All}
use Rattle.std.proofs.lemmas.List.Elements.{All-nil, All-cons, All-head, All-tail}

pub all-mapped : {A B : Type 0} (P : A → Type 0) (Q : B → Type 0) (f : A → B) → ((x : A) → P x → Q (f x)) → (xs : List A) → All P xs → All Q (map f xs)
all-mapped P Q f h [] a = All-nil Q
all-mapped P Q f h (x ∷ xs) a = All-cons Q (f x) (map f xs) (h x (All-head P x xs a)) (all-mapped P Q f h xs (All-tail P x xs a))

pub all-mapped_back : {A B : Type 0} (P : A → Type 0) (Q : B → Type 0) (f : A → B) → ((x : A) → Q (f x) → P x) → (xs : List A) → All Q (map f xs) → All P xs
all-mapped_back P Q f h [] a = All-nil P
all-mapped_back P Q f h (x ∷ xs) a = All-cons P x xs (h x (All-head Q (f x) (map f xs) a)) (all-mapped_back P Q f h xs (All-tail Q (f x) (map f xs) a))

-- two facts of each element make a third
pub all-both : {A : Type 0} (P Q S : A → Type 0) → ((x : A) → P x → Q x → S x) → (xs : List A) → All P xs → All Q xs → All S xs
all-both P Q S h [] a b = All-nil S
all-both P Q S h (x ∷ xs) a b = All-cons S x xs (h x (All-head P x xs a) (All-head Q x xs b)) (all-both P Q S h xs (All-tail P x xs a) (All-tail Q x xs b))

pub all-always : {A : Type 0} (P : A → Type 0) → ((x : A) → P x) → (xs : List A) → All P xs
all-always P h [] = All-nil P
all-always P h (x ∷ xs) = All-cons P x xs (h x) (all-always P h xs)
