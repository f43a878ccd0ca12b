-- How optional bytes behind one another regroup.
use Rattle.std.proofs.Common.{◌≡◌, List, [], ◌++◌, Some, None, refl, sym, ap, append_assoc, append-nil, ℕ}
use Rattle.wcv_encode.specs.Bytes.{Bytes, ◌⧺◌}

pub some_join : (a b : List ℕ) → Some a ⧺ Some b ≡ Some (a ++ b)
unfolding ◌⧺◌
some_join a b = refl

pub none_join : (b : Bytes) → None ⧺ b ≡ None
unfolding ◌⧺◌
none_join b = refl

pub join_none : (a : Bytes) → a ⧺ None ≡ None
unfolding ◌⧺◌
join_none None = refl
join_none (Some a) = refl

pub empty_join : (b : Bytes) → Some [] ⧺ b ≡ b
unfolding ◌⧺◌
empty_join None = refl
empty_join (Some b) = refl

pub join_empty : (a : List ℕ) → Some a ⧺ Some [] ≡ Some a
unfolding ◌⧺◌
join_empty a = ap Some (append-nil a)

pub join_assoc : (a b c : Bytes) → a ⧺ (b ⧺ c) ≡ (a ⧺ b) ⧺ c
unfolding ◌⧺◌
join_assoc None b c = refl
join_assoc (Some a) None c = refl
join_assoc (Some a) (Some b) None = refl
join_assoc (Some a) (Some b) (Some c) = ap Some (sym (append_assoc a b c))

pub ruleset joins = (join_assoc, none_join, join_none, join_empty, some_join)

pub join_one : (b : Bytes) → b ⧺ Some [] ≡ b
unfolding ◌⧺◌
join_one None = refl
join_one (Some a) = ap Some (append-nil a)
