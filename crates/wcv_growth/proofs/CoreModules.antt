-- What a core module imports and exports names types of the table behind its declarations, where these have no cause.
use Rattle.std.proofs.Common.{◌≡◌, ◌<◌, ◌≤◌, ℕ, List, [], ◌∷◌, map, Bool, cond, refl, sym, ◌∙◌, subst, arith, Option, Some, None}
use Rattle.std.specs.Prelude.{All, get_or}
use Rattle.std.proofs.lemmas.List.Elements.{All-nil, All-cons, All-head, All-tail}
use Rattle.wcv_core.specs.Checks.{Checks, IsFree}
use Rattle.wcv_core.specs.CoreForm.{Group}
use Rattle.wcv_core.specs.CoreGroups.{total}
use Rattle.wcv_core.specs.CoreJoining.{is_free, group_ids, grown, then_checks, with_types}
use Rattle.wcv_core.specs.CoreSizes.{IsEntityWithin}
use Rattle.wcv_core.specs.CoreWritten.{Core_entry, IsKnown, closed_group}
use Rattle.wcv_core.specs.declared.core_types.EntityType.{EntityType}
use Rattle.wcv_core.specs.declared.features.WasmFeatures.{WasmFeatures}
use Rattle.wcv_core.proofs.Causes.{free_left, free_right}
use Rattle.wcv_core.proofs.Ranges.{known_more}
use Rattle.wcv_syntax.specs.CoreItems.{entity_of}
use Rattle.wcv_syntax.specs.Model.{Module_decl, module_type, module_import, module_export, module_outer}
use Rattle.wcv_syntax.specs.ModuleTypes.{Module_type, Made, Core_import, Core_export, module_entries, empty_module, with_type, with_import, with_export, aliased, decl_checks, declared, and_then, all_declared, on_made, module_checks}
use Rattle.wcv_types.proofs.CoreGrown.{total_more, grown_by}
use Rattle.wcv_types.proofs.Lists.{some-inj}
use Rattle.wcv_types.proofs.Unfolding.{all_left, all_right}
use Rattle.wcv_module.specs.Kept.{module_items, IsCounted}
use Rattle.wcv_module.proofs.Counting.{decl_counted}
use Rattle.wcv_module.proofs.Growing.{known_alias, known_with}
use Rattle.wcv_lower.specs.CoreItems.{module_made}
use Rattle.wcv_lower.proofs.ModulesMade.{said_free, made_same}
use Rattle.wcv_lower.proofs.TableGroups.{ids_known}
use Rattle.wcv_growth.proofs.Known.{mapped-some}

free-first : (cs ds : Checks) → IsFree (then_checks cs ds) → IsFree cs
free-first cs ds h = free_left cs (cond (is_free cs) ds []) h

free-second : (cs ds : Checks) → IsFree (then_checks cs ds) → IsFree ds
free-second cs ds h = subst (λ (b : Bool). IsFree (cond b ds [])) (said_free cs (free-first cs ds h)) (free_right cs (cond (is_free cs) ds []) h)

-- a group makes no table smaller
pub grown-more : (gs : List Group) (g : Group) → total gs ≤ total (grown gs g)
grown-more gs g = let w = grown_by gs g in total_more gs w.0 (grown gs g) w.1

-- ## Declarations

-- what holds of the table and the module behind some of them
pub record Keeps (gs : List Group) (m : Module_type) : Type 0 where
  pub known : All (IsKnown (total gs)) (module_entries m)
  pub counted : IsCounted gs m

known-types : (n : ℕ) (m : Module_type) (is : List ℕ) → All (λ i. i < n) is → All (IsKnown n) (module_entries m) → All (IsKnown n) (module_entries (with_types with_type m is))
known-types n m [] a k = k
known-types n m (i ∷ is) a k = known-types n (with_type m i) is (All-tail (λ (i : ℕ). i < n) i is a) (known_with n m i (All-head (λ (i : ℕ). i < n) i is a) k)

module _ (outers : List (List Core_entry)) where
  abbrev Grown : List Group → Made → Type 0
  Grown gs s = (total gs ≤ total s.0) × All (IsKnown (total s.0)) (module_entries s.1)

  decl-grown : (gs : List Group) (m : Module_type) (d : Module_decl) (s : Made) → Keeps gs m → All (All (IsKnown (total gs))) outers → declared outers gs m d ≡ Some s → Grown gs s
  decl-grown gs m (module_type w) s h o e =
      let es : List Core_entry = module_entries m in
      let g : Group = closed_group es w in
      subst (Grown gs) (some-inj e)
      (grown-more gs g, known-types (total (grown gs g)) m (group_ids gs g) (ids_known gs g) (known_more (total gs) (total (grown gs g)) es (grown-more gs g) h.known))
  decl-grown gs m (module_import i) s h o e =
      let w = mapped-some {B = Made} (λ x. (gs, with_import gs m (i.module, i.name) x)) (entity_of m.types i.ty) s e in
      subst (Grown gs) w.2 (omega arith, h.known)
  decl-grown gs m (module_export n t) s h o e =
      let w = mapped-some {B = Made} (λ x. (gs, with_export gs m n x)) (entity_of m.types t) s e in
      subst (Grown gs) w.2 (omega arith, h.known)
  decl-grown gs m (module_outer k i) s h o e =
      let w = mapped-some {B = Made} (λ x. (gs, with_type m x)) (aliased outers m k i) s e in
      subst (Grown gs) w.2 (omega arith, known_with (total gs) m w.0 (known_alias (total gs) outers m k i w.0 h.known o w.1) h.known)

all-more : (n m : ℕ) → n ≤ m → (xs : List (List Core_entry)) → All (All (IsKnown n)) xs → All (All (IsKnown m)) xs
all-more n m l xs a k d r = known_more n m (get_or xs k d) l (a k d r)

decls-keep : (outers : List (List Core_entry)) (gs : List Group) (m : Module_type) (ds : List Module_decl) (s : Made) → Keeps gs m → All (All (IsKnown (total gs))) outers → IsFree (module_checks outers gs m ds) → all_declared outers gs m ds ≡ Some s → (total gs ≤ total s.0) × Keeps s.0 s.1
decls-keep outers gs m [] s h o f e = subst (λ (x : Made). (total gs ≤ total x.0) × Keeps x.0 x.1) (some-inj e) (omega arith, h)
decls-keep outers gs m (d ∷ ds) s h o f e =
    go (declared outers gs m d) refl e (free-second (decl_checks outers gs m d) (on_made (λ x. module_checks outers x.0 x.1 ds) (declared outers gs m d)) f) (λ x k a free w. decls-keep outers x.0 x.1 ds s k a free w)
  where
    own : IsFree (decl_checks outers gs m d)
    own = free-first (decl_checks outers gs m d) (on_made (λ x. module_checks outers x.0 x.1 ds) (declared outers gs m d)) f

    go : (r : Option Made) → declared outers gs m d ≡ r → and_then (λ x. all_declared outers x.0 x.1 ds) r ≡ Some s → IsFree (on_made (λ x. module_checks outers x.0 x.1 ds) r) → ((x : Made) → Keeps x.0 x.1 → All (All (IsKnown (total x.0))) outers → IsFree (module_checks outers x.0 x.1 ds) → all_declared outers x.0 x.1 ds ≡ Some s → (total x.0 ≤ total s.0) × Keeps s.0 s.1) → (total gs ≤ total s.0) × Keeps s.0 s.1
    go None q w free later = cc
    go (Some x) q w free later =
        let g = decl-grown outers gs m d x h o q in
        let v = later x (record { known = g.1; counted = decl_counted outers gs x.0 m x.1 d h.known own q h.counted }) (all-more (total gs) (total x.0) g.0 outers o) free w in
        let l : total gs ≤ total x.0 = g.0 in
        let k : total x.0 ≤ total s.0 = v.0 in
        (omega (arith, l, k), v.1)

-- what the declarations of a module make, over a table: the table that has its groups, and items that are of it
pub record IsMade (gs : List Group) (s : Made) : Type 0 where
  pub more : total gs ≤ total s.0
  pub imports : All (λ i. IsEntityWithin (total s.0) i.1) s.1.imports
  pub exports : All (λ e. IsEntityWithin (total s.0) e.1) s.1.exports

all-mapped : {A B : Type 0} (P : B → Type 0) (f : A → B) (xs : List A) → All P (map f xs) → All (λ x. P (f x)) xs
all-mapped P f [] a = All-nil (λ x. P (f x))
all-mapped P f (x ∷ xs) a = All-cons (λ x. P (f x)) x xs (All-head P (f x) (map f xs) a) (all-mapped P f xs (All-tail P (f x) (map f xs) a))

pub module-kept : (fs : WasmFeatures) (outers : List (List Core_entry)) (gs : List Group) (ds : List Module_decl) (s : Made) → All (All (IsKnown (total gs))) outers → IsFree (module_checks outers gs (empty_module fs) ds) →
    module_made outers gs (empty_module fs) ds ≡ Some s → IsMade gs s
module-kept fs outers gs ds s o f e =
    let w = decls-keep outers gs (empty_module fs) ds s (record { known = All-nil (IsKnown (total gs)); counted = record { within = All-nil (IsEntityWithin (total gs)); size = refl } }) o f (sym (made_same outers gs (empty_module fs) ds f) ∙ e) in
    let items : All (IsEntityWithin (total s.0)) (module_items s.1) = w.1.counted.within in
    let imports : List EntityType = map (λ i. i.1) s.1.imports in
    let exports : List EntityType = map (λ e. e.1) s.1.exports in
    record {
      more = w.0;
      imports = all-mapped (IsEntityWithin (total s.0)) (λ (i : Core_import). i.1) s.1.imports (all_left (IsEntityWithin (total s.0)) imports exports items);
      exports = all-mapped (IsEntityWithin (total s.0)) (λ (e : Core_export). e.1) s.1.exports (all_right (IsEntityWithin (total s.0)) imports exports items);
    }
