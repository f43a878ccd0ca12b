-- Core modules and their types: over a table that has what they name, declarations make the same, and nothing joins.
use Rattle.std.proofs.Common.{◌≡◌, ◌∙◌, ℕ, zero, suc, ◌+◌, ◌<◌, ◌≤◌, List, [], ◌∷◌, ◌++◌, length, get_or, Bool, true, not, ◌&&◌, cond, Option, Some, None, refl, sym, ap, subst}
use Rattle.std.specs.Prelude.{All, slice_get}
use Rattle.std.specs.Option.{option_map}
use Rattle.std.proofs.lemmas.List.{append_assoc, length-append, get_or_append_left}
use Rattle.std.proofs.lemmas.List.Elements.{All-head}
use Rattle.std.proofs.lemmas.Option.{slice_get-map}
use Rattle.wcv_core.specs.CoreForm.{SubForm, Group, no_type}
use Rattle.wcv_core.specs.CoreGroups.{total, id_of, types_of}
use Rattle.wcv_core.specs.CoreJoining.{is_free, group_ids, grown, with_types}
use Rattle.wcv_core.specs.CoreMatching.{type_at}
use Rattle.wcv_core.specs.CoreTable.{joined_to}
use Rattle.wcv_core.specs.CoreWritten.{Core_entry, IsKnown, closed_group}
use Rattle.wcv_core.specs.declared.core_types.CoreTypeId.{CoreTypeId}
use Rattle.wcv_core.specs.declared.core_types.EntityType.{EntityType}
use Rattle.wcv_core.proofs.Ranges.{known_more}
use Rattle.wcv_closed.specs.ClosedTable.{IsTable}
use Rattle.wcv_syntax.specs.CoreItems.{type_entry, type_entries, is_func_form, func_checks, entity_of}
use Rattle.wcv_syntax.specs.Model.{Module_decl, module_type, module_import, module_export, module_outer}
use Rattle.wcv_syntax.specs.ModuleTypes.{Core_import, Core_export, Module_type, Made, module_entries, with_type, with_import, with_export, with_group_of, aliased, on_entry, and_then}
use Rattle.wcv_syntax.specs.declared.core_section.TypeRef.{TypeRef}
use Rattle.wcv_syntax.specs.declared.core_section.TypeRef.TheVariants as ref
use Rattle.wcv_types.proofs.Lists.{some-inj}
use Rattle.wcv_lower.specs.CoreItems.{may_join, is_found, is_declarable, declaration_made, module_made}
use Rattle.wcv_lower.proofs.Bringing.{all_at}
use Rattle.wcv_lower.proofs.TableModules.{Stands, module_stands}
use Rattle.wcv_growth.specs.Kept.{IsPrefix}
use Rattle.wcv_growth.proofs.Groups.{no_more, prefix_trans}
use Rattle.wcv_growth.proofs.Known.{mapped-some}
use Rattle.wcv_safety.proofs.Groups.{Stays, total-more, group-stays, heap-more, val-more}
use Rattle.wcv_safety.proofs.Tests.{if-some}

-- ## Types of a table with more

types-both : (gs hs : List Group) → types_of (gs ++ hs) ≡ types_of gs ++ types_of hs
types-both [] hs = refl
types-both (g ∷ gs) hs = ap (λ (ts : List SubForm). g ++ ts) (types-both gs hs) ∙ sym (append_assoc g (types_of gs) (types_of hs))

count-types : (gs : List Group) → length (types_of gs) ≡ total gs
count-types [] = refl
count-types (g ∷ gs) = length-append g (types_of gs) ∙ ap (λ (n : ℕ). length g + n) (count-types gs)

pub type-stays : (gs hs : List Group) (i : ℕ) → i < total gs → type_at (gs ++ hs) i ≡ type_at gs i
type-stays gs hs i l = ap (λ (ts : List SubForm). get_or ts i no_type) (types-both gs hs) ∙ get_or_append_left (types_of gs) (types_of hs) no_type i (subst (λ (n : ℕ). i < n) (sym (count-types gs)) l)

-- ## What a written type names

module _ (gs more : List Group) (ts : List CoreTypeId) (k : All (IsKnown (total gs)) (type_entries ts)) where
  id-known : (i : ℕ) (t : CoreTypeId) → slice_get ts i ≡ Some t → t.index < total gs
  id-known i t e = all_at (IsKnown (total gs)) (type_entries ts) i (type_entry t) k (slice_get-map type_entry ts i ∙ ap (option_map type_entry) e)

  func-found : (i : ℕ) → is_free (func_checks gs (slice_get ts i)) ≡ true → is_free (func_checks (gs ++ more) (slice_get ts i)) ≡ true
  func-found i e = go (slice_get ts i) refl e
    where
      go : (o : Option CoreTypeId) → slice_get ts i ≡ o → is_free (func_checks gs o) ≡ true → is_free (func_checks (gs ++ more) o) ≡ true
      go None q e = e
      go (Some t) q e = ap (λ (s : SubForm). not (not (is_func_form s.inner)) && true) (type-stays gs more t.index (id-known i t q)) ∙ e

  found-stays : (t : TypeRef) → is_found gs ts t ≡ true → is_found (gs ++ more) ts t ≡ true
  found-stays (ref.Func i) e = func-found i e
  found-stays (ref.Tag i) e = func-found i e
  found-stays (ref.Table t) e = heap-more (total gs) (total (gs ++ more)) (total-more gs more) (type_entries ts) 0 t.element_type.heap e
  found-stays (ref.Memory m) e = refl
  found-stays (ref.Global g) e = val-more (total gs) (total (gs ++ more)) (total-more gs more) (type_entries ts) 0 g.content_type e

-- ## Declarations

-- they declare the same, sizes aside
pub record SameModule (a b : Module_type) : Type 0 where
  pub types : a.types ≡ b.types
  pub imports : a.imports ≡ b.imports
  pub exports : a.exports ≡ b.exports

with-same : (is : List ℕ) (a b : Module_type) → SameModule a b → SameModule (with_types with_type a is) (with_types with_type b is)
with-same [] a b h = h
with-same (i ∷ is) a b h =
    with-same is (with_type a i) (with_type b i) (record { types = ap (λ (ts : List CoreTypeId). ts ++ (record { index = i }) ∷ []) h.types; imports = h.imports; exports = h.exports })

joined-behind : (gs : List Group) (g : Group) (o : Option ℕ) → IsPrefix gs (joined_to o gs g)
joined-behind gs g None = (g ∷ [], refl)
joined-behind gs g (Some i) = no_more gs

grown-behind : (gs : List Group) (g : Group) → IsPrefix gs (grown gs g)
grown-behind gs [] = no_more gs
grown-behind gs (x ∷ g) = joined-behind gs (x ∷ g) (id_of gs (x ∷ g))

declared-behind : (outers : List (List Core_entry)) (gs : List Group) (m : Module_type) (d : Module_decl) (s : Made) → declaration_made outers gs m d ≡ Some s → IsPrefix gs s.0
declared-behind outers gs m (module_type w) s e =
    let q = if-some (is_declarable gs m (module_type w)) (Some (with_group_of gs m w)) s e in
    subst (λ (r : Made). IsPrefix gs r.0) (some-inj q.1) (grown-behind gs (closed_group (module_entries m) w))
declared-behind outers gs m (module_import i) s e =
    let q = if-some (is_declarable gs m (module_import i)) (option_map (λ (x : EntityType). (gs, with_import gs m (i.module, i.name) x)) (entity_of m.types i.ty)) s e in
    let r = mapped-some (λ (x : EntityType). (gs, with_import gs m (i.module, i.name) x)) (entity_of m.types i.ty) s q.1 in
    subst (λ (r : Made). IsPrefix gs r.0) r.2 (no_more gs)
declared-behind outers gs m (module_export n t) s e =
    let q = if-some (is_declarable gs m (module_export n t)) (option_map (λ (x : EntityType). (gs, with_export gs m n x)) (entity_of m.types t)) s e in
    let r = mapped-some (λ (x : EntityType). (gs, with_export gs m n x)) (entity_of m.types t) s q.1 in
    subst (λ (r : Made). IsPrefix gs r.0) r.2 (no_more gs)
declared-behind outers gs m (module_outer k i) s e =
    let r = mapped-some (λ (t : ℕ). (gs, with_type m t)) (aliased outers m k i) s e in
    subst (λ (r : Made). IsPrefix gs r.0) r.2 (no_more gs)

-- what is made over a table is made over one that begins with that, and nothing joins the other
pub record MadeOver (hs : List Group) (s : Made) (o : Option Made) : Type 0 where
  pub over : Module_type
  pub made : o ≡ Some (hs, over)
  pub same : SameModule over s.1

module _ (outers ess : List (List Core_entry)) (among : (k : ℕ) (es : List Core_entry) → slice_get outers k ≡ Some es → (j : ℕ) × (slice_get ess j ≡ Some es)) (hs : List Group) (table : IsTable hs) where
  module _ (gs : List Group) (m n : Module_type) (h : Stands outers ess among (gs, m)) (same : SameModule n m) where
    known : All (IsKnown (total gs)) (module_entries m)
    known = All-head (λ (es : List Core_entry). All (IsKnown (total gs)) es) (module_entries m) ess h.known

    group-over : (w : Group) (more : List Group) → hs ≡ grown gs (closed_group (module_entries m) w) ++ more → total gs ≤ total hs → may_join gs (module_entries m) w ≡ true → MadeOver hs (with_group_of gs m w) (declaration_made outers hs n (module_type w))
    group-over w more q l e =
        let st : Stays gs hs (module_entries m) w = group-stays gs more hs (module_entries m) w q h.table table l known (known_more (total gs) (total hs) (module_entries m) l known) e in
        let c : Group = closed_group (module_entries m) w in
        subst (λ (es : List Core_entry). MadeOver hs (with_group_of gs m w) (cond (may_join hs es w) (Some (grown hs (closed_group es w), with_types with_type n (group_ids hs (closed_group es w)))) None)) (sym (ap type_entries same.types))
        (record {
          over = with_types with_type n (group_ids hs c);
          made = ap (λ (b : Bool). cond b (Some (grown hs c, with_types with_type n (group_ids hs c))) None) st.may ∙ ap (λ (ks : List Group). Some (ks, with_types with_type n (group_ids hs c))) st.groups;
          same = subst (λ (is : List ℕ). SameModule (with_types with_type n (group_ids hs c)) (with_types with_type m is)) st.ids (with-same (group_ids hs c) n m same);
        })

    entity-over : (t : TypeRef) (more : List Group) → hs ≡ gs ++ more → (f f' : EntityType → Module_type) → ((x : EntityType) → SameModule (f' x) (f x)) → (s : Made) →
        cond (is_found gs m.types t) (option_map (λ x. (gs, f x)) (entity_of m.types t)) None ≡ Some s → MadeOver hs s (cond (is_found hs n.types t) (option_map (λ x. (hs, f' x)) (entity_of n.types t)) None)
    entity-over t more q f f' k s e =
        let i = if-some (is_found gs m.types t) (option_map (λ (x : EntityType). (gs, f x)) (entity_of m.types t)) s e in
        let x = mapped-some (λ (x : EntityType). (gs, f x)) (entity_of m.types t) s i.1 in
        let there : is_found hs m.types t ≡ true = subst (λ (ks : List Group). is_found ks m.types t ≡ true) (sym q) (found-stays gs more m.types known t i.0) in
        subst (λ (ts : List CoreTypeId). MadeOver hs s (cond (is_found hs ts t) (option_map (λ x. (hs, f' x)) (entity_of ts t)) None)) (sym same.types)
        (subst (λ (r : Made). MadeOver hs r (cond (is_found hs m.types t) (option_map (λ x. (hs, f' x)) (entity_of m.types t)) None)) x.2
        (record {
          over = f' x.0;
          made = ap (λ (b : Bool). cond b (option_map (λ (x : EntityType). (hs, f' x)) (entity_of m.types t)) None) there ∙ ap (option_map (λ (x : EntityType). (hs, f' x))) x.1;
          same = k x.0;
        }))

    declared-over : (d : Module_decl) (s : Made) → declaration_made outers gs m d ≡ Some s → IsPrefix s.0 hs → IsPrefix gs hs → MadeOver hs s (declaration_made outers hs n d)
    declared-over (module_type w) s e p p' =
        let q = if-some (may_join gs (module_entries m) w) (Some (with_group_of gs m w)) s e in
        let r = some-inj q.1 in
        let p'' : IsPrefix (grown gs (closed_group (module_entries m) w)) hs = subst (λ (z : Made). IsPrefix z.0 hs) (sym r) p in
        subst (λ (z : Made). MadeOver hs z (declaration_made outers hs n (module_type w))) r
        (group-over w p''.0 p''.1 (subst (λ (ks : List Group). total gs ≤ total ks) (sym p'.1) (total-more gs p'.0)) q.0)
    declared-over (module_import i) s e p p' =
        entity-over i.ty p'.0 p'.1 (λ x. with_import gs m (i.module, i.name) x) (λ x. with_import hs n (i.module, i.name) x)
        (λ x. record { types = same.types; imports = ap (λ (is : List Core_import). is ++ ((i.module, i.name), x) ∷ []) same.imports; exports = same.exports }) s e
    declared-over (module_export k t) s e p p' =
        entity-over t p'.0 p'.1 (λ x. with_export gs m k x) (λ x. with_export hs n k x)
        (λ x. record { types = same.types; imports = same.imports; exports = ap (λ (es : List Core_export). es ++ (k, x) ∷ []) same.exports }) s e
    declared-over (module_outer k i) s e p p' =
        let x = mapped-some (λ (t : ℕ). (gs, with_type m t)) (aliased outers m k i) s e in
        subst (λ (r : Made). MadeOver hs r (declaration_made outers hs n (module_outer k i))) x.2
        (record {
          over = with_type n x.0;
          made = ap (option_map (λ (t : ℕ). (hs, with_type n t))) (aliased-same k ∙ x.1);
          same = record { types = ap (λ (ts : List CoreTypeId). ts ++ (record { index = x.0 }) ∷ []) same.types; imports = same.imports; exports = same.exports };
        })
      where
        aliased-same : (k : ℕ) → aliased outers n k i ≡ aliased outers m k i
        aliased-same zero = ap (λ (ts : List CoreTypeId). on_entry (slice_get (type_entries ts) i)) same.types
        aliased-same (suc k) = refl

  made-behind : (gs : List Group) (m : Module_type) (ds : List Module_decl) (s : Made) → module_made outers gs m ds ≡ Some s → IsPrefix gs s.0
  made-behind gs m [] s e = subst (λ (r : Made). IsPrefix gs r.0) (some-inj e) (no_more gs)
  made-behind gs m (d ∷ ds) s e = go (declaration_made outers gs m d) refl e (λ r. made-behind r.0 r.1 ds s)
    where
      go : (o : Option Made) → declaration_made outers gs m d ≡ o → and_then (λ r. module_made outers r.0 r.1 ds) o ≡ Some s → ((r : Made) → module_made outers r.0 r.1 ds ≡ Some s → IsPrefix r.0 s.0) → IsPrefix gs s.0
      go None q e later = absurd (cc)
      go (Some r) q e later = prefix_trans gs r.0 s.0 (declared-behind outers gs m d r q) (later r e)

  -- so all that declarations make
  pub module-over : (gs : List Group) (m n : Module_type) (ds : List Module_decl) (s : Made) → Stands outers ess among (gs, m) → SameModule n m → module_made outers gs m ds ≡ Some s → IsPrefix s.0 hs → IsPrefix gs hs →
      MadeOver hs s (module_made outers hs n ds)
  module-over gs m n [] s h same e p p' =
      subst (λ (r : Made). MadeOver hs r (Some (hs, n))) (some-inj e) (record { over = n; made = refl; same = same })
  module-over gs m n (d ∷ ds) s h same e p p' = go (declaration_made outers gs m d) refl e (λ r n'. module-over r.0 r.1 n' ds s)
    where
      go : (o : Option Made) → declaration_made outers gs m d ≡ o → and_then (λ r. module_made outers r.0 r.1 ds) o ≡ Some s →
          ((r : Made) (n' : Module_type) → Stands outers ess among (r.0, r.1) → SameModule n' r.1 → module_made outers r.0 r.1 ds ≡ Some s → IsPrefix s.0 hs → IsPrefix r.0 hs → MadeOver hs s (module_made outers hs n' ds)) →
          MadeOver hs s (and_then (λ r. module_made outers r.0 r.1 ds) (declaration_made outers hs n d))
      go None q e later = absurd (cc)
      go (Some r) q e later =
          let behind : IsPrefix r.0 hs = prefix_trans r.0 s.0 hs (made-behind r.0 r.1 ds s e) p in
          let one = declared-over gs m n h same d r q behind p' in
          let next : Stands outers ess among r = module_stands outers ess among gs m (d ∷ []) r h (ap (and_then (λ (z : Made). Some z)) q) in
          let rest = later r one.over next one.same e p behind in
          record { over = rest.over; made = ap (and_then (λ (z : Made). module_made outers z.0 z.1 ds)) one.made ∙ rest.made; same = rest.same }
