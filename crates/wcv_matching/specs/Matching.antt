-- When one type matches another.
use Rattle.std.specs.Prelude.{ℕ, zero, suc, List, map, cond, bytes_eq, ◌≡◌}
use Rattle.wcv_core.specs.Names.{Name, member}
use Rattle.wcv_core.specs.declared.core_types.EntityType.{EntityType}
use Rattle.wcv_types.specs.Tree.{Text, Extern_name, Head, Tree, Parts, Sort, is_instance, is_component, is_type, is_module, head, sort, parts, exports_in, imports_in, referenced, owned, imported_at}
use Rattle.wcv_types.specs.Resources.{owns}
use Rattle.wcv_types.specs.Seen.{Within, outer, inner, under, seen}
use Rattle.wcv_types.specs.Unfold.{Type_tree}
use Rattle.wcv_closed.specs.CoreModules.{ModuleMatches}
use Rattle.wcv_closed.specs.Found.{EachFound}
use Rattle.wcv_matching.specs.ModuleItems.{module_items}

-- ## Entries by name

-- of the whole name of an entry its name alone counts
abbrev pub named : {X : Type 0} → List (Extern_name × X) → List (Text × X)
named es = map (λ e. (e.0.name, e.1)) es

abbrev pub named_exports_in : {R I : Type 0} → Parts R I → List (Text × Tree R I)
named_exports_in ps = named (exports_in ps)

abbrev pub named_imports_in : {R I : Type 0} → Parts R I → List (Text × Tree R I)
named_imports_in ps = named (imports_in ps)

abbrev pub named_exports : {R I : Type 0} → Tree R I → List (Text × Tree R I)
named_exports t = named_exports_in (parts t)

abbrev pub named_imports : {R I : Type 0} → Tree R I → List (Text × Tree R I)
named_imports t = named_imports_in (parts t)

-- for each entry of ys the first of its name in xs stands in the relation to it
abbrev pub Entries : {X Y : Type 0} → (X → Y → Type 0) → List (Text × X) → List (Text × Y) → Type 0
Entries R xs ys = EachFound bytes_eq R xs ys

-- ## Readings

-- how the resources of a tree are read
abbrev pub Reading : Type 0 → Type 0
Reading A = Name → A

abbrev pub outside : {A : Type 0} → Reading A → Reading (Within A)
outside f r = outer (f r)

-- within an instance type its own resources are atoms
abbrev pub in_instance : {A : Type 0} → Type_tree → Reading A → Reading (Within A)
in_instance a f = under (head a) (outside f)

-- resources as they are seen where two components are compared: those of outside, as inner ones those that the right one
-- imports, and as made ones those that either defines
pub data Fresh (A : Type 0) : Type 0 where
  within : Within A → Fresh A
  made : Name → Fresh A

-- in a component the imported resources are read by s, those that it defines by t
abbrev pub in_component : {A : Type 0} → Head Name Name → Reading (Fresh A) → Reading (Fresh A) → Reading A → Reading (Fresh A)
in_component h s t f r = cond (owns h r) (cond (member r (imported_at h)) (s r) (t r)) (within (outer (f r)))

abbrev pub atoms : {A : Type 0} → Reading (Fresh A)
atoms r = within (inner r)

-- the left component, whose imports are opened by s
abbrev pub left : {A : Type 0} → Reading (Within A) → Reading A → Type_tree → Reading (Fresh A)
left s f a = in_component (head a) (λ r. within (s r)) made f

-- the right component, whose exports are opened by t
abbrev pub right : {A : Type 0} → Reading (Fresh A) → Reading A → Type_tree → Reading (Fresh A)
right t g b = in_component (head b) atoms t g

-- ## The rules

-- says of two core items whether the first matches the second
abbrev pub Item_rule : Type 1
Item_rule = EntityType → EntityType → Type 0

-- says of two trees, and how the resources of each are read, whether the first matches the second
abbrev pub Matching : Type 1
Matching = (A : Type 0) → Reading A → Reading A → Type_tree → Type_tree → Type 0

-- the rule of each sort, where M is the matching of parts
abbrev pub MatchAs : Item_rule → Matching → Sort → Matching
MatchAs C M is_instance A f g a b = Entries (M (Within A) (in_instance a f) (in_instance b g)) (named_exports a) (named_exports b)
MatchAs C M is_type A f g a b =
    M A f g (referenced a) (referenced b) ×
    M A g f (referenced b) (referenced a) ×
    ((r : Name) → member r (owned (referenced a)) ≡ member r (owned (referenced b)))
MatchAs C M is_component A f g a b =
    (s : Reading (Within A)) ×
    (t : Reading (Fresh A)) ×
    Entries (M (Fresh A) (right made g b) (left s f a)) (named_imports b) (named_imports a) ×
    Entries (M (Fresh A) (left s f a) (right t g b)) (named_exports a) (named_exports b)
MatchAs C M is_module A f g a b = ModuleMatches C (module_items a) (module_items b)
MatchAs C M _ A f g a b = seen (outside f) a ≡ seen (outside g) b

-- a matches b, in trees of less than that height
abbrev pub MatchBelow : Item_rule → ℕ → Matching
MatchBelow C zero A f g a b = ⊥
MatchBelow C (suc d) A f g a b = (sort a ≡ sort b) × MatchAs C (MatchBelow C d) (sort a) A f g a b

-- a matches b
abbrev pub Matches : Item_rule → Type_tree → Type_tree → Type 0
Matches C a b = (d : ℕ) × MatchBelow C d Name (λ r. r) (λ r. r) a b

-- ## Opening a component by arguments

-- the resources that the component imports are read by s
abbrev pub opened_by : (Name → Name) → Type_tree → Reading Name
opened_by s c r = cond (member r (imported_at (head c))) (s r) r

-- under s the arguments open the imports of the component
abbrev pub OpensImports : Item_rule → (Name → Name) → List (Text × Type_tree) → Type_tree → Type 0
OpensImports C s args c = Entries (λ x y. (d : ℕ) × MatchBelow C d Name (λ r. r) (opened_by s c) x y) args (named_imports c)
