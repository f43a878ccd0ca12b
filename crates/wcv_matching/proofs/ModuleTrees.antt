-- What the tree of a core module or of a core instance imports and exports is what its node does.
use Rattle.std.proofs.Common.{◌≡◌, List, [], ◌∷◌, ◌++◌, map, refl, sym, ◌∙◌, ap, subst}
use Rattle.std.specs.Prelude.{All}
use Rattle.std.proofs.lemmas.List.{append-nil}
use Rattle.std.proofs.lemmas.List.Elements.{All-nil, All-cons, All-head, All-tail}
use Rattle.wcv_core.specs.declared.core_types.EntityType.{EntityType}
use Rattle.wcv_types.specs.Tree.{Text, parts}
use Rattle.wcv_types.specs.Arena.{Arena}
use Rattle.wcv_types.specs.Unfold.{Type_tree, core_import_slots, core_export_slots, slot_parts, kind_slots, parts_in, parts_of, place, unfolded, tree_at, trees}
use Rattle.wcv_types.specs.declared.arena.Node.TheVariants as n
use Rattle.wcv_types.specs.declared.core_shapes.ModuleType.{ModuleType}
use Rattle.wcv_types.specs.declared.core_shapes.InstanceType.{InstanceType}
use Rattle.wcv_types.specs.declared.core_shapes.CoreInstanceTypeKind.{CoreInstanceTypeKind}
use Rattle.wcv_types.specs.declared.core_shapes.CoreInstanceTypeKind.TheVariants as kind
use Rattle.wcv_types.specs.declared.ids.ComponentCoreModuleTypeId.{ComponentCoreModuleTypeId}
use Rattle.wcv_types.specs.declared.ids.Part.{Part}
use Rattle.wcv_types.specs.declared.ids.Part.TheVariants as p
use Rattle.wcv_types.specs.Standing.{core_items, kind_items}
use Rattle.wcv_types.proofs.CoreSizes.{listed_seen}
use Rattle.wcv_closed.specs.CoreModules.{Module_items}
use Rattle.wcv_matching.specs.ModuleItems.{core_imports_in, core_exports_in, module_items, items_of, instance_exports_in, instance_exports}

module _ (ts : List Type_tree) where
  pub exports_alone : (es : List (Text × EntityType)) → core_exports_in (slot_parts ts (core_export_slots es)) ≡ es
  exports_alone [] = refl
  exports_alone (e ∷ es) = ap (λ (fs : List (Text × EntityType)). e ∷ fs) (exports_alone es)

  pub no_imports : (es : List (Text × EntityType)) → core_imports_in (slot_parts ts (core_export_slots es)) ≡ []
  no_imports [] = refl
  no_imports (e ∷ es) = no_imports es

  pub imports_seen : (is : List ((Text × Text) × EntityType)) (es : List (Text × EntityType)) → core_imports_in (slot_parts ts (core_import_slots is ++ core_export_slots es)) ≡ is
  imports_seen [] es = no_imports es
  imports_seen (i ∷ is) es = ap (λ (js : List ((Text × Text) × EntityType)). i ∷ js) (imports_seen is es)

  pub exports_seen : (is : List ((Text × Text) × EntityType)) (es : List (Text × EntityType)) → core_exports_in (slot_parts ts (core_import_slots is ++ core_export_slots es)) ≡ es
  exports_seen [] es = exports_alone es
  exports_seen (i ∷ is) es = exports_seen is es

pub module_seen : (a : Arena) (t : Type_tree) (s : ModuleType) (q : Part) → t ≡ unfolded a (place q) (n.Module s) → module_items t ≡ items_of s
module_seen a t s q e =
    let ts = trees a.nodes in
    ap module_items e ∙ (λ j. record { imports = imports_seen ts s.imports s.exports j; exports = exports_seen ts s.imports s.exports j })

-- ## Items within a table

pub mapped_all : {X Y : Type 0} (P : Y → Type 0) (f : X → Y) (xs : List X) (ys : List Y) → All P (map f xs ++ ys) → All (λ x. P (f x)) xs × All P ys
mapped_all P f [] ys a = (All-nil (λ x. P (f x)), a)
mapped_all P f (x ∷ xs) ys a =
    let r = mapped_all P f xs ys (All-tail P (f x) (map f xs ++ ys) a) in
    (All-cons (λ x. P (f x)) x xs (All-head P (f x) (map f xs ++ ys) a) r.0, r.1)

pub all_mapped : {X Y : Type 0} (P : Y → Type 0) (f : X → Y) (xs : List X) → All P (map f xs) → All (λ x. P (f x)) xs
all_mapped P f [] a = All-nil (λ x. P (f x))
all_mapped P f (x ∷ xs) a = All-cons (λ x. P (f x)) x xs (All-head P (f x) (map f xs) a) (all_mapped P f xs (All-tail P (f x) (map f xs) a))

pub module_imports_all : (P : EntityType → Type 0) (is : List ((Text × Text) × EntityType)) (es : List (Text × EntityType)) → All P (map (λ i. i.1) is ++ map (λ e. e.1) es) → All (λ (i : (Text × Text) × EntityType). P i.1) is
module_imports_all P is es a = (mapped_all P (λ (i : (Text × Text) × EntityType). i.1) is (map (λ (e : Text × EntityType). e.1) es) a).0

pub module_exports_all : (P : EntityType → Type 0) (is : List ((Text × Text) × EntityType)) (es : List (Text × EntityType)) → All P (map (λ i. i.1) is ++ map (λ e. e.1) es) → All (λ (e : Text × EntityType). P e.1) es
module_exports_all P is es a = all_mapped P (λ (e : Text × EntityType). e.1) es (mapped_all P (λ (i : (Text × Text) × EntityType). i.1) is (map (λ (e : Text × EntityType). e.1) es) a).1

-- ## Core instances

pub module_part : (P : Part → Type 0) (s : InstanceType) (m : ComponentCoreModuleTypeId) → s.kind ≡ kind.Instantiated m → All P (parts_of (n.CoreInstance s)) → P (p.Module m)
module_part P s m e a = All-head P (p.Module m) [] (subst (λ (k : CoreInstanceTypeKind). All P (parts_in (kind_slots k))) e a)

pub exports_listed : (a : Arena) (t : Type_tree) (s : InstanceType) (q : Part) (es : List (Text × EntityType)) → t ≡ unfolded a (place q) (n.CoreInstance s) → s.kind ≡ kind.Exports es → es ≡ instance_exports t
exports_listed a t s q es e k =
    sym (listed_seen (trees a.nodes) es) ∙ ap (λ (x : CoreInstanceTypeKind). instance_exports_in (slot_parts (trees a.nodes) (kind_slots x))) (sym k) ∙ ap instance_exports (sym e)

pub exports_of_module : (a : Arena) (t : Type_tree) (s : InstanceType) (q : Part) (m : ComponentCoreModuleTypeId) (u : ModuleType) → t ≡ unfolded a (place q) (n.CoreInstance s) → s.kind ≡ kind.Instantiated m
    → module_items (tree_at a (p.Module m)) ≡ items_of u → u.exports ≡ instance_exports t
exports_of_module a t s q m u e k f =
    sym (ap (λ (i : Module_items EntityType). i.exports) f) ∙ sym (append-nil (core_exports_in (parts (tree_at a (p.Module m))))) ∙
    ap (λ (x : CoreInstanceTypeKind). instance_exports_in (slot_parts (trees a.nodes) (kind_slots x))) (sym k) ∙ ap instance_exports (sym e)

pub listed_all : (P : EntityType → Type 0) (s : InstanceType) (es : List (Text × EntityType)) → s.kind ≡ kind.Exports es → All P (core_items (n.CoreInstance s)) → All (λ (e : Text × EntityType). P e.1) es
listed_all P s es k a = all_mapped P (λ (e : Text × EntityType). e.1) es (subst (λ (x : CoreInstanceTypeKind). All P (kind_items x)) k a)
