-- One step of the passes over ids, for each sort of types.
use Rattle.std.proofs.Common.{◌≡◌, ℕ, zero, suc, ◌≤◌, ◌<◌, List, [], ◌∷◌, Bool, true, false, ◌&&◌, cond, eqb, Option, Some, None, bytes_eq, is_some, option_map, refl, sym, ◌∙◌, ap, subst, arith, eq-eqb}
use Rattle.std.proofs.Math.Path.{fun_ext}
use Rattle.std.proofs.Math.Bool.{and-true}
use Rattle.std.proofs.lemmas.Map.Made.{lookup-map_values}
use Rattle.std.proofs.lemmas.Option.{slice_get-map}
use Rattle.std.specs.Prelude.{slice_get}
use Rattle.std.specs.List.{list_all}
use Rattle.std.specs.Map.{lookup}
use Rattle.wcv_core.specs.CoreForm.{Group}
use Rattle.wcv_core.specs.Names.{Name}
use Rattle.wcv_types.specs.Arena.{Arena}
use Rattle.wcv_types.specs.Entities.{any_part, entity_tree, entry_tree, EntityStands}
use Rattle.wcv_types.specs.Sets.{resource_names}
use Rattle.wcv_types.specs.Seen.{seen}
use Rattle.wcv_types.specs.Standing.{Stands}
use Rattle.wcv_types.specs.Tree.{Text, node, import, export, label, core_import, core_export, type_entity, here, Parts, none, part, Sort, is_value, is_resource, is_func, is_instance, is_type, is_module, sort, head, owned}
use Rattle.wcv_types.specs.Unfold.{Type_tree, trees, tree_at, unfolded}
use Rattle.wcv_types.specs.declared.arena.Node.TheVariants as n
use Rattle.wcv_types.specs.declared.ids.ComponentAnyTypeId.{ComponentAnyTypeId}
use Rattle.wcv_types.specs.declared.ids.ComponentAnyTypeId.TheVariants as any
use Rattle.wcv_types.specs.declared.ids.ComponentCoreModuleTypeId.{ComponentCoreModuleTypeId}
use Rattle.wcv_types.specs.declared.ids.ComponentFuncTypeId.{ComponentFuncTypeId}
use Rattle.wcv_types.specs.declared.ids.ComponentInstanceTypeId.{ComponentInstanceTypeId}
use Rattle.wcv_types.specs.declared.ids.ComponentTypeId.{ComponentTypeId}
use Rattle.wcv_types.specs.declared.ids.Part.TheVariants as p
use Rattle.wcv_types.specs.declared.instance_type.ComponentInstanceType.{ComponentInstanceType}
use Rattle.wcv_types.specs.declared.item_map.ComponentItem.{ComponentItem}
use Rattle.wcv_types.specs.declared.shapes.ComponentEntityType.{ComponentEntityType}
use Rattle.wcv_types.specs.declared.shapes.ComponentEntityType.TheVariants as entity
use Rattle.wcv_types.specs.declared.shapes.ComponentValType.{ComponentValType}
use Rattle.wcv_types.specs.declared.shapes.ComponentValType.TheVariants as v
use Rattle.wcv_types.proofs.EntryParts.{component_exports}
use Rattle.wcv_types.proofs.Unfolding.{sort_stands}
use Rattle.wcv_matching.specs.AtomTests.{id_tests, same_seen}
use Rattle.wcv_atoms.specs.IdPasses.{Answers, AnswersEntries, AnswersTypes, as_entity, as_resource, entries_pass, modules_pass, named_trees, pass_below, same_resource, tallest}
use Rattle.wcv_matching.specs.Matching.{Reading, outside, named, named_exports, named_exports_in}
use Rattle.wcv_matching.specs.NamedPaths.{entry}
use Rattle.wcv_matching.specs.OnePass.{Atom, each_passes, found_in, match_as, match_below, owned_in, same_as, same_below, same_members, sort_number, under_at}
use Rattle.wcv_matching.specs.Orderly.{height, heights}
use Rattle.wcv_atoms.specs.Readings.{over, read_by}
use Rattle.wcv_atoms.proofs.AtomLists.{over_listed}
use Rattle.wcv_matching.proofs.ByName.{some_one}
use Rattle.wcv_matching.proofs.NamedLists.{map-map}

-- ## Steps

no_height : (t : Type_tree) → height t ≤ 0 → ⊥
no_height (node h ps) l = absurd (omega (arith, l))

pick : (exact : Bool) (x y z : Bool) → x ≡ y → x ≡ z → x ≡ cond exact y z
pick true x y z e h = e
pick false x y z e h = h

module _ (gs : List Group) where
  -- at two types of one sort
  step : (exact : Bool) (d : ℕ) (s : Sort) (k : ℕ) (f g : Reading Atom) (a b : Type_tree) → sort a ≡ s → sort b ≡ s →
      pass_below exact (id_tests gs) (suc d) k f g a b ≡ cond exact (same_as (id_tests gs) (same_below (id_tests gs) d) s k f g a b) (match_as (id_tests gs) (same_below (id_tests gs) d) (match_below (id_tests gs) d) s k f g a b)
  step true d s k f g a b ea eb =
      (λ j. eqb (sort_number (ea j)) (sort_number (eb j)) && same_as (id_tests gs) (same_below (id_tests gs) d) (ea j) k f g a b) ∙
      ap (λ (c : Bool). c && same_as (id_tests gs) (same_below (id_tests gs) d) s k f g a b) (eq-eqb (sort_number s) (sort_number s) refl)
  step false d s k f g a b ea eb =
      (λ j. eqb (sort_number (ea j)) (sort_number (eb j)) && match_as (id_tests gs) (same_below (id_tests gs) d) (match_below (id_tests gs) d) (ea j) k f g a b) ∙
      ap (λ (c : Bool). c && match_as (id_tests gs) (same_below (id_tests gs) d) (match_below (id_tests gs) d) s k f g a b) (eq-eqb (sort_number s) (sort_number s) refl)

  pub answers_made : (exact : Bool) (s : Sort) (k : ℕ) (f g : Reading Atom) (a b : Type_tree) {c : Bool} → sort a ≡ s → sort b ≡ s →
      ((d : ℕ) → height a ≤ suc d → height b ≤ suc d → c ≡ cond exact (same_as (id_tests gs) (same_below (id_tests gs) d) s k f g a b) (match_as (id_tests gs) (same_below (id_tests gs) d) (match_below (id_tests gs) d) s k f g a b)) →
      Answers gs exact k f g a b c
  answers_made exact s k f g a b ea eb m zero l r = absurd (no_height a l)
  answers_made exact s k f g a b ea eb m (suc d) l r = m d l r ∙ sym (step exact d s k f g a b ea eb)

  -- types of two sorts
  pub answers_no : (exact : Bool) (k : ℕ) (f g : Reading Atom) (a b : Type_tree) → eqb (sort_number (sort a)) (sort_number (sort b)) ≡ false → Answers gs exact k f g a b false
  answers_no exact k f g a b e zero l r = absurd (no_height a l)
  answers_no true k f g a b e (suc d) l r = sym (ap (λ (c : Bool). c && same_as (id_tests gs) (same_below (id_tests gs) d) (sort a) k f g a b) e)
  answers_no false k f g a b e (suc d) l r = sym (ap (λ (c : Bool). c && match_as (id_tests gs) (same_below (id_tests gs) d) (match_below (id_tests gs) d) (sort a) k f g a b) e)

  pub answers_at : (exact : Bool) (k : ℕ) (f g f' g' : Reading Atom) (x y x' y' : Type_tree) {c : Bool} → f ≡ f' → g ≡ g' → x ≡ x' → y ≡ y' → Answers gs exact k f g x y c → Answers gs exact k f' g' x' y' c
  answers_at exact k f g f' g' x y x' y' {c} p q e h m =
      subst (λ (w : Type_tree). Answers gs exact k f' g' x' w c) h (subst (λ (w : Type_tree). Answers gs exact k f' g' w y c) e
      (subst (λ (w : Reading Atom). Answers gs exact k f' w x y c) q (subst (λ (w : Reading Atom). Answers gs exact k w g x y c) p m)))

  -- ## By sorts

  pub values_answer : (exact : Bool) (k : ℕ) (f g : Reading Atom) (a b : Type_tree) {c : Bool} → sort a ≡ is_value → sort b ≡ is_value → c ≡ same_seen (seen (outside f) a) (seen (outside g) b) → Answers gs exact k f g a b c
  values_answer exact k f g a b ea eb m = answers_made exact is_value k f g a b ea eb (λ d l r. pick exact _ _ _ m m)

  pub funcs_answer : (exact : Bool) (k : ℕ) (f g : Reading Atom) (a b : Type_tree) {c : Bool} → sort a ≡ is_func → sort b ≡ is_func → c ≡ same_seen (seen (outside f) a) (seen (outside g) b) → Answers gs exact k f g a b c
  funcs_answer exact k f g a b ea eb m = answers_made exact is_func k f g a b ea eb (λ d l r. pick exact _ _ _ m m)

  pub resources_answer : (exact : Bool) (k : ℕ) (f g : Reading Atom) (a b : Type_tree) {c : Bool} → sort a ≡ is_resource → sort b ≡ is_resource → c ≡ same_seen (seen (outside f) a) (seen (outside g) b) → Answers gs exact k f g a b c
  resources_answer exact k f g a b ea eb m = answers_made exact is_resource k f g a b ea eb (λ d l r. pick exact _ _ _ m m)

  pub modules_answer : (exact : Bool) (k : ℕ) (f g : Reading Atom) (a b : Type_tree) {c : Bool} → sort a ≡ is_module → sort b ≡ is_module → c ≡ modules_pass (id_tests gs) exact a b → Answers gs exact k f g a b c
  modules_answer exact k f g a b ea eb m = answers_made exact is_module k f g a b ea eb (λ d l r. m)

  pub entries_answer : (exact : Bool) (k : ℕ) (f g : Reading Atom) (a b : Type_tree) {c : Bool} → sort a ≡ is_instance → sort b ≡ is_instance →
      tallest (named_exports a) < height a → tallest (named_exports b) < height b →
      AnswersEntries gs exact (suc k) (under_at k (head a) f) (under_at k (head b) g) (named_exports a) (named_exports b) c → Answers gs exact k f g a b c
  entries_answer true k f g a b ea eb ha hb m = answers_made true is_instance k f g a b ea eb (λ d l r. m d (omega (arith, l, ha)) (omega (arith, r, hb)))
  entries_answer false k f g a b ea eb ha hb m = answers_made false is_instance k f g a b ea eb (λ d l r. m d (omega (arith, l, ha)) (omega (arith, r, hb)))

  pub types_answer : (exact : Bool) (k : ℕ) (f g : Reading Atom) (x y x' y' : Type_tree) {c : Bool} → AnswersTypes gs k f g y y' c →
      Answers gs exact k f g (node type_entity (part here x (part here y none))) (node type_entity (part here x' (part here y' none))) c
  types_answer exact k f g x y x' y' m = answers_made exact is_type k f g _ _ refl refl (λ d l r. let h = m d (omega (arith, l)) (omega (arith, r)) in pick exact _ _ _ h h)

-- ## Heights

pub tallest_at : (es : List (Text × Type_tree)) (k : ℕ) (e : Text × Type_tree) → slice_get es k ≡ Some e → height e.1 ≤ tallest es
tallest_at [] k e h = cc
tallest_at (x ∷ es) zero e h = let is : x ≡ e = some_one x e h in subst (λ (w : Text × Type_tree). height w.1 ≤ tallest (x ∷ es)) is (omega arith)
tallest_at (x ∷ es) (suc k) e h = let l = tallest_at es k e h in omega (arith, l)

pub tallest_found : (es : List (Text × Type_tree)) (t : Text) (x : Type_tree) → entry t es ≡ Some x → height x ≤ tallest es
tallest_found [] t x h = cc
tallest_found (e ∷ es) t x h = go (bytes_eq t e.0) h (tallest_found es t x)
  where
    go : (b : Bool) → cond b (Some e.1) (entry t es) ≡ Some x → (entry t es ≡ Some x → height x ≤ tallest es) → height x ≤ tallest (e ∷ es)
    go true i w = let is : e.1 ≡ x = some_one e.1 x i in subst (λ (y : Type_tree). height y ≤ tallest (e ∷ es)) is (omega arith)
    go false i w = let l = w i in omega (arith, l)

exports_low : (ps : Parts Name Name) → tallest (named_exports_in ps) ≤ heights ps
exports_low none = omega arith
exports_low (part (export m) t ps) = let l = exports_low ps in omega (arith, l)
exports_low (part here t ps) = let l = exports_low ps in omega (arith, l)
exports_low (part (label m) t ps) = let l = exports_low ps in omega (arith, l)
exports_low (part (import m) t ps) = let l = exports_low ps in omega (arith, l)
exports_low (part (core_import l m) t ps) = let w = exports_low ps in omega (arith, w)
exports_low (part (core_export m) t ps) = let l = exports_low ps in omega (arith, l)

pub exports_lower : (t : Type_tree) → tallest (named_exports t) < height t
exports_lower (node h ps) = let l = exports_low ps in omega (arith, l)

-- ## Entries by ids

pub found_tree : (ts : List Type_tree) (es : List (Text × ComponentItem)) (t : Text) (x : ComponentItem) → lookup (bytes_eq t) es ≡ Some x → entry t (named_trees ts es) ≡ Some (entity_tree ts x.ty)
found_tree ts es t x h = lookup-map_values (λ (w : ComponentItem). entity_tree ts w.ty) (bytes_eq t) es ∙ ap (option_map (λ (w : ComponentItem). entity_tree ts w.ty)) h

pub no_tree : (ts : List Type_tree) (es : List (Text × ComponentItem)) (t : Text) → lookup (bytes_eq t) es ≡ None → entry t (named_trees ts es) ≡ None
no_tree ts es t h = lookup-map_values (λ (w : ComponentItem). entity_tree ts w.ty) (bytes_eq t) es ∙ ap (option_map (λ (w : ComponentItem). entity_tree ts w.ty)) h

pub tree_at_place : (ts : List Type_tree) (es : List (Text × ComponentItem)) (k : ℕ) (e : Text × ComponentItem) → slice_get es k ≡ Some e → slice_get (named_trees ts es) k ≡ Some (e.0, entity_tree ts e.1.ty)
tree_at_place ts es k e h = slice_get-map (λ (w : Text × ComponentItem). (w.0, entity_tree ts w.1.ty)) es k ∙ ap (option_map (λ (w : Text × ComponentItem). (w.0, entity_tree ts w.1.ty))) h

names_mapped : (ts : List Type_tree) (xs ys : List (Text × ComponentItem)) → list_all (λ (e : Text × Type_tree). is_some (entry e.0 (named_trees ts ys))) (named_trees ts xs) ≡ list_all (λ (e : Text × ComponentItem). is_some (lookup (bytes_eq e.0) ys)) xs
names_mapped ts [] ys = refl
names_mapped ts (x ∷ xs) ys = λ j. (ap (λ (o : Option Type_tree). is_some o) (lookup-map_values (λ (w : ComponentItem). entity_tree ts w.ty) (bytes_eq x.0) ys) ∙ some_mapped (lookup (bytes_eq x.0) ys)) j && names_mapped ts xs ys j
  where
    some_mapped : (o : Option ComponentItem) → is_some (option_map (λ (w : ComponentItem). entity_tree ts w.ty) o) ≡ is_some o
    some_mapped None = refl
    some_mapped (Some w) = refl

pub entries_split : (ts : List Type_tree) (exact : Bool) (R : Type_tree → Type_tree → Bool) (xs ys : List (Text × ComponentItem)) →
    entries_pass exact R (named_trees ts xs) (named_trees ts ys) ≡ (cond exact (list_all (λ (e : Text × ComponentItem). is_some (lookup (bytes_eq e.0) ys)) xs) true && each_passes R (named_trees ts xs) (named_trees ts ys))
entries_split ts true R xs ys = ap (λ (b : Bool). b && each_passes R (named_trees ts xs) (named_trees ts ys)) (names_mapped ts xs ys)
entries_split ts false R xs ys = refl

pub found_passes : (R : Type_tree → Type_tree → Bool) (xs : List (Text × Type_tree)) (y : Text × Type_tree) (x : Type_tree) → entry y.0 xs ≡ Some x → found_in R xs y ≡ R x y.1
found_passes R xs y x e = ap (λ (o : Option Type_tree). elim o [ None ↦ false | Some w ↦ R w y.1 ]) e

pub none_passes : (R : Type_tree → Type_tree → Bool) (xs : List (Text × Type_tree)) (y : Text × Type_tree) → entry y.0 xs ≡ None → found_in R xs y ≡ false
none_passes R xs y e = ap (λ (o : Option Type_tree). elim o [ None ↦ false | Some w ↦ R w y.1 ]) e

-- ## Entities by ids

abbrev number_of : ComponentEntityType → ℕ
number_of (entity.Module i) = 7
number_of (entity.Func i) = 3
number_of (entity.Value w) = 1
number_of (entity.Ty c r) = 6
number_of (entity.Instance i) = 4
number_of (entity.Component i) = 5

module _ (a : Arena) where
  entity_number : (x : ComponentEntityType) → EntityStands a x → sort_number (sort (entity_tree (trees a.nodes) x)) ≡ number_of x
  entity_number (entity.Module i) s = ap sort_number (sort_stands a (p.Module i) s)
  entity_number (entity.Func i) s = ap sort_number (sort_stands a (p.Func i) s)
  entity_number (entity.Value (v.Primitive q)) s = refl
  entity_number (entity.Value (v.Ty i)) s = ap sort_number (sort_stands a (p.Defined i) s)
  entity_number (entity.Ty c r) s = refl
  entity_number (entity.Instance i) s = ap sort_number (sort_stands a (p.Instance i) s)
  entity_number (entity.Component i) s = ap sort_number (sort_stands a (p.Component i) s)

  pub entities_differ : (exact : Bool) (k : ℕ) (f g : Reading Atom) (x y : ComponentEntityType) → EntityStands a x → EntityStands a y → eqb (number_of x) (number_of y) ≡ false →
      Answers a.core exact k f g (entity_tree (trees a.nodes) x) (entity_tree (trees a.nodes) y) false
  entities_differ exact k f g x y s t e = answers_no a.core exact k f g _ _ ((λ j. eqb (entity_number x s j) (entity_number y t j)) ∙ e)

  value_sort : (w : ComponentValType) → EntityStands a (entity.Value w) → sort (entity_tree (trees a.nodes) (entity.Value w)) ≡ is_value
  value_sort (v.Primitive q) s = refl
  value_sort (v.Ty i) s = sort_stands a (p.Defined i) s

  pub values_by_ids : (exact : Bool) (k : ℕ) (f g : Reading Atom) (x y : ComponentValType) {c : Bool} → EntityStands a (entity.Value x) → EntityStands a (entity.Value y) →
      c ≡ same_seen (seen (outside f) (entity_tree (trees a.nodes) (entity.Value x))) (seen (outside g) (entity_tree (trees a.nodes) (entity.Value y))) →
      Answers a.core exact k f g (entity_tree (trees a.nodes) (entity.Value x)) (entity_tree (trees a.nodes) (entity.Value y)) c
  values_by_ids exact k f g x y s t m = values_answer a.core exact k f g _ _ (value_sort x s) (value_sort y t) m

pub module_apart : (x y : ComponentEntityType) (i : ComponentCoreModuleTypeId) → x ≡ entity.Module i → ((j : ComponentCoreModuleTypeId) → y ≡ entity.Module j → ⊥) → eqb (number_of x) (number_of y) ≡ false
module_apart x y i e o = ap (λ (z : ComponentEntityType). eqb (number_of z) (number_of y)) e ∙ go y o
  where
    go : (y : ComponentEntityType) → ((j : ComponentCoreModuleTypeId) → y ≡ entity.Module j → ⊥) → eqb 7 (number_of y) ≡ false
    go (entity.Module j) o = absurd (o j refl)
    go _ o = refl

pub func_apart : (x y : ComponentEntityType) (i : ComponentFuncTypeId) → x ≡ entity.Func i → ((j : ComponentFuncTypeId) → y ≡ entity.Func j → ⊥) → eqb (number_of x) (number_of y) ≡ false
func_apart x y i e o = ap (λ (z : ComponentEntityType). eqb (number_of z) (number_of y)) e ∙ go y o
  where
    go : (y : ComponentEntityType) → ((j : ComponentFuncTypeId) → y ≡ entity.Func j → ⊥) → eqb 3 (number_of y) ≡ false
    go (entity.Func j) o = absurd (o j refl)
    go _ o = refl

pub value_apart : (x y : ComponentEntityType) (i : ComponentValType) → x ≡ entity.Value i → ((j : ComponentValType) → y ≡ entity.Value j → ⊥) → eqb (number_of x) (number_of y) ≡ false
value_apart x y i e o = ap (λ (z : ComponentEntityType). eqb (number_of z) (number_of y)) e ∙ go y o
  where
    go : (y : ComponentEntityType) → ((j : ComponentValType) → y ≡ entity.Value j → ⊥) → eqb 1 (number_of y) ≡ false
    go (entity.Value j) o = absurd (o j refl)
    go _ o = refl

pub type_apart : (x y : ComponentEntityType) (c r : ComponentAnyTypeId) → x ≡ entity.Ty c r → ((c' r' : ComponentAnyTypeId) → y ≡ entity.Ty c' r' → ⊥) → eqb (number_of x) (number_of y) ≡ false
type_apart x y c r e o = ap (λ (z : ComponentEntityType). eqb (number_of z) (number_of y)) e ∙ go y o
  where
    go : (y : ComponentEntityType) → ((c' r' : ComponentAnyTypeId) → y ≡ entity.Ty c' r' → ⊥) → eqb 6 (number_of y) ≡ false
    go (entity.Ty c' r') o = absurd (o c' r' refl)
    go _ o = refl

pub instance_apart : (x y : ComponentEntityType) (i : ComponentInstanceTypeId) → x ≡ entity.Instance i → ((j : ComponentInstanceTypeId) → y ≡ entity.Instance j → ⊥) → eqb (number_of x) (number_of y) ≡ false
instance_apart x y i e o = ap (λ (z : ComponentEntityType). eqb (number_of z) (number_of y)) e ∙ go y o
  where
    go : (y : ComponentEntityType) → ((j : ComponentInstanceTypeId) → y ≡ entity.Instance j → ⊥) → eqb 4 (number_of y) ≡ false
    go (entity.Instance j) o = absurd (o j refl)
    go _ o = refl

pub component_apart : (x y : ComponentEntityType) (i : ComponentTypeId) → x ≡ entity.Component i → ((j : ComponentTypeId) → y ≡ entity.Component j → ⊥) → eqb (number_of x) (number_of y) ≡ false
component_apart x y i e o = ap (λ (z : ComponentEntityType). eqb (number_of z) (number_of y)) e ∙ go y o
  where
    go : (y : ComponentEntityType) → ((j : ComponentTypeId) → y ≡ entity.Component j → ⊥) → eqb 5 (number_of y) ≡ false
    go (entity.Component j) o = absurd (o j refl)
    go _ o = refl

-- ## Instances by ids

pub instance_names : (a : Arena) (i : ℕ) (s : ComponentInstanceType) (t : Type_tree) → t ≡ unfolded a i (n.Instance s) → named_exports t ≡ named_trees (trees a.nodes) s.exports
instance_names a i s t e =
    ap (λ (w : Type_tree). named_exports w) e ∙ ap (λ (es : _). named es) (component_exports (trees a.nodes) [] s.exports) ∙ map-map (λ (w : _). (w.0.name, w.1)) (entry_tree (trees a.nodes)) s.exports

pub instance_under : (a : Arena) (i k : ℕ) (s : ComponentInstanceType) (t : Type_tree) (f : Reading Atom) → t ≡ unfolded a i (n.Instance s) → under_at k (head t) f ≡ over (read_by (owned_in k) (resource_names s.defined_resources)) f
instance_under a i k s t f e = ap (λ (w : Type_tree). under_at k (head w) f) e ∙ fun_ext (λ r. sym (over_listed (owned_in k) f (resource_names s.defined_resources) r))

-- ## Types of any sort by ids

pub entity_of : (a : Arena) (x : ComponentAnyTypeId) (y : ComponentEntityType) → as_entity x ≡ Some y → (EntityStands a y ≡ Stands a (any_part x)) × (entity_tree (trees a.nodes) y ≡ tree_at a (any_part x))
entity_of a (any.Resource r) y e = cc
entity_of a (any.Defined i) y e = let is : entity.Value (v.Ty i) ≡ y = some_one _ y e in (λ j. EntityStands a (sym is j), λ j. entity_tree (trees a.nodes) (sym is j))
entity_of a (any.Func i) y e = let is : entity.Func i ≡ y = some_one _ y e in (λ j. EntityStands a (sym is j), λ j. entity_tree (trees a.nodes) (sym is j))
entity_of a (any.Instance i) y e = let is : entity.Instance i ≡ y = some_one _ y e in (λ j. EntityStands a (sym is j), λ j. entity_tree (trees a.nodes) (sym is j))
entity_of a (any.Component i) y e = let is : entity.Component i ≡ y = some_one _ y e in (λ j. EntityStands a (sym is j), λ j. entity_tree (trees a.nodes) (sym is j))

abbrev any_number : ComponentAnyTypeId → ℕ
any_number (any.Resource r) = 2
any_number (any.Defined i) = 1
any_number (any.Func i) = 3
any_number (any.Instance i) = 4
any_number (any.Component i) = 5

any_number_is : (a : Arena) (x : ComponentAnyTypeId) → Stands a (any_part x) → sort_number (sort (tree_at a (any_part x))) ≡ any_number x
any_number_is a (any.Resource r) s = refl
any_number_is a (any.Defined i) s = ap sort_number (sort_stands a (p.Defined i) s)
any_number_is a (any.Func i) s = ap sort_number (sort_stands a (p.Func i) s)
any_number_is a (any.Instance i) s = ap sort_number (sort_stands a (p.Instance i) s)
any_number_is a (any.Component i) s = ap sort_number (sort_stands a (p.Component i) s)

types_no : (gs : List Group) (k : ℕ) (f g : Reading Atom) (s t : Type_tree) → eqb (sort_number (sort s)) (sort_number (sort t)) ≡ false → AnswersTypes gs k f g s t false
types_no gs k f g s t e d l r = ap (λ (b : Bool). b && same_members (owned s) (owned t)) (answers_no gs true k f g s t e d l r)

pub no_resource : (a : Arena) (k : ℕ) (f g : Reading Atom) (x y : ComponentAnyTypeId) (z : ComponentEntityType) → Stands a (any_part x) → Stands a (any_part y) → as_entity x ≡ Some z → as_entity y ≡ None →
    AnswersTypes a.core k f g (tree_at a (any_part x)) (tree_at a (any_part y)) false
no_resource a k f g x y z s t e h = types_no a.core k f g _ _ ((λ j. eqb (any_number_is a x s j) (any_number_is a y t j)) ∙ go x y e h)
  where
    go : (x y : ComponentAnyTypeId) → as_entity x ≡ Some z → as_entity y ≡ None → eqb (any_number x) (any_number y) ≡ false
    go (any.Resource r) y e h = cc
    go (any.Defined i) (any.Resource q) e h = refl
    go (any.Func i) (any.Resource q) e h = refl
    go (any.Instance i) (any.Resource q) e h = refl
    go (any.Component i) (any.Resource q) e h = refl
    go x (any.Defined j) e h = cc
    go x (any.Func j) e h = cc
    go x (any.Instance j) e h = cc
    go x (any.Component j) e h = cc

pub resources_by_ids : (a : Arena) (k : ℕ) (f g : Reading Atom) (x y : ComponentAnyTypeId) → Stands a (any_part y) → as_entity x ≡ None → AnswersTypes a.core k f g (tree_at a (any_part x)) (tree_at a (any_part y)) (same_resource f g (as_resource x) (as_resource y))
resources_by_ids a k f g (any.Resource r) (any.Resource q) t e d l m =
    sym (ap (λ (b : Bool). b && true) (sym (resources_answer a.core true k f g _ _ refl refl refl d l m)) ∙ and-true _ ∙ and-true _)
resources_by_ids a k f g (any.Resource r) (any.Defined j) t e d l m = types_no a.core k f g _ _ (ap (λ (w : ℕ). eqb 2 w) (any_number_is a (any.Defined j) t)) d l m
resources_by_ids a k f g (any.Resource r) (any.Func j) t e d l m = types_no a.core k f g _ _ (ap (λ (w : ℕ). eqb 2 w) (any_number_is a (any.Func j) t)) d l m
resources_by_ids a k f g (any.Resource r) (any.Instance j) t e d l m = types_no a.core k f g _ _ (ap (λ (w : ℕ). eqb 2 w) (any_number_is a (any.Instance j) t)) d l m
resources_by_ids a k f g (any.Resource r) (any.Component j) t e d l m = types_no a.core k f g _ _ (ap (λ (w : ℕ). eqb 2 w) (any_number_is a (any.Component j) t)) d l m
resources_by_ids a k f g (any.Defined i) y t e d l m = cc
resources_by_ids a k f g (any.Func i) y t e d l m = cc
resources_by_ids a k f g (any.Instance i) y t e d l m = cc
resources_by_ids a k f g (any.Component i) y t e d l m = cc

pub no_tree_at : (ts : List Type_tree) (es : List (Text × ComponentItem)) (k : ℕ) → slice_get es k ≡ None → slice_get (named_trees ts es) k ≡ None
no_tree_at ts es k h = slice_get-map (λ (w : Text × ComponentItem). (w.0, entity_tree ts w.1.ty)) es k ∙ ap (option_map (λ (w : Text × ComponentItem). (w.0, entity_tree ts w.1.ty))) h
