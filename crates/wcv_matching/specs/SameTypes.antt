-- When two types are the same: each matches the other, said in one direction.
use Rattle.std.specs.Prelude.{ℕ, zero, suc, List, [], true, false, ◌≡◌}
use Rattle.wcv_core.specs.Names.{Name, member}
use Rattle.wcv_types.specs.Tree.{Text, Head, component, Sort, is_instance, is_component, is_type, is_module, head, sort, referenced, owned, imported, firsts}
use Rattle.wcv_types.specs.Seen.{Within, inner, seen}
use Rattle.wcv_types.specs.Unfold.{Type_tree}
use Rattle.wcv_closed.specs.CoreModules.{ModuleMatches}
use Rattle.wcv_matching.specs.Matching.{Entries, Reading, outside, in_instance, Fresh, within, made, in_component, left, right, Item_rule, Matching, named_exports, named_imports}
use Rattle.wcv_matching.specs.ModuleItems.{module_items}

-- the resources that a component node defines
abbrev pub made_at : {R I : Type 0} → Head R I → List R
made_at (component i ins outs) = firsts outs
made_at _ = []

abbrev pub defined_by : Type_tree → List Name
defined_by t = made_at (head t)

-- the two lists have the same names, and the first entries of a name stand in the relation
abbrev pub Pairs : {X : Type 0} → (X → X → Type 0) → List (Text × X) → List (Text × X) → Type 0
Pairs R xs ys = Entries R xs ys × Entries (λ y x. R x y) ys xs

-- the own resources of a component go, one to one, to those of another
pub record Pairing (a : Type_tree) : Type 0 where
  pub imported_to : Name → Name
  pub imported_back : Name → Name
  pub defined_to : Name → Name
  pub defined_back : Name → Name
  pub imported_one : (r : Name) → member r (imported a) ≡ true → imported_back (imported_to r) ≡ r
  pub defined_one : (r : Name) → member r (imported a) ≡ false → member r (defined_by a) ≡ true → defined_back (defined_to r) ≡ r

-- the left component in its imports: its imported resources are read as those of the right one
abbrev pub paired_imports : {A : Type 0} → (Name → Name) → Reading A → Type_tree → Reading (Fresh A)
paired_imports i f a = in_component (head a) (λ r. within (inner (i r))) made f

-- and in its exports: those that it defines too
abbrev pub paired : {A : Type 0} → (Name → Name) → (Name → Name) → Reading A → Type_tree → Reading (Fresh A)
paired i o f a = in_component (head a) (λ r. within (inner (i r))) (λ r. made (o r)) f

-- the rule of each sort, where S says of parts that they are the same
abbrev pub SameAs : Item_rule → Matching → Sort → Matching
SameAs C S is_instance A f g a b = Pairs (S (Within A) (in_instance a f) (in_instance b g)) (named_exports a) (named_exports b)
SameAs C S is_type A f g a b =
    S A f g (referenced a) (referenced b) ×
    ((r : Name) → member r (owned (referenced a)) ≡ member r (owned (referenced b)))
SameAs C S is_component A f g a b =
    (p : Pairing a) ×
    Pairs (S (Fresh A) (paired_imports p.imported_to f a) (right made g b)) (named_imports a) (named_imports b) ×
    Pairs (S (Fresh A) (paired p.imported_to p.defined_to f a) (right made g b)) (named_exports a) (named_exports b)
SameAs C S is_module A f g a b = ModuleMatches C (module_items a) (module_items b) × ModuleMatches C (module_items b) (module_items a)
SameAs C S _ A f g a b = seen (outside f) a ≡ seen (outside g) b

-- a and b are the same, in trees of less than that height
abbrev pub SameBelow : Item_rule → ℕ → Matching
SameBelow C zero A f g a b = ⊥
SameBelow C (suc d) A f g a b = (sort a ≡ sort b) × SameAs C (SameBelow C d) (sort a) A f g a b

-- a and b are the same
abbrev pub IsSame : Item_rule → Type_tree → Type_tree → Type 0
IsSame C a b = (d : ℕ) × SameBelow C d Name (λ r. r) (λ r. r) a b

-- ## Matching that asks at a type entry whether the types are the same

-- the rule of each sort, where M is the matching of parts, and S says of them that they are the same
abbrev pub MatchOnceAs : Item_rule → Matching → Matching → Sort → Matching
MatchOnceAs C S M is_instance A f g a b = Entries (M (Within A) (in_instance a f) (in_instance b g)) (named_exports a) (named_exports b)
MatchOnceAs C S M is_type A f g a b = SameAs C S is_type A f g a b
MatchOnceAs C S M is_component A f g a b =
    (s : Reading (Within A)) ×
    (t : Reading (Fresh A)) ×
    Entries (M (Fresh A) (right made g b) (left s f a)) (named_imports b) (named_imports a) ×
    Entries (M (Fresh A) (left s f a) (right t g b)) (named_exports a) (named_exports b)
MatchOnceAs C S M is_module A f g a b = ModuleMatches C (module_items a) (module_items b)
MatchOnceAs C S M _ A f g a b = seen (outside f) a ≡ seen (outside g) b

abbrev pub MatchOnceBelow : Item_rule → ℕ → Matching
MatchOnceBelow C zero A f g a b = ⊥
MatchOnceBelow C (suc d) A f g a b = (sort a ≡ sort b) × MatchOnceAs C (SameBelow C d) (MatchOnceBelow C d) (sort a) A f g a b

abbrev pub MatchesOnce : Item_rule → Type_tree → Type_tree → Type 0
MatchesOnce C a b = (d : ℕ) × MatchOnceBelow C d Name (λ r. r) (λ r. r) a b
