-- Types that are found in a context by an index are tidy, and so is what is made of them: the node of a type item, and a type that is
-- created again.
use Rattle.std.proofs.Common.{◌≡◌, ℕ, List, [], ◌∷◌, ◌++◌, map, true, false, refl, sym, ◌∙◌, ap, subst, append-nil, Some, None}
use Rattle.std.specs.Prelude.{All, slice_get, Option}
use Rattle.std.proofs.lemmas.Bool.{false≢true}
use Rattle.std.proofs.lemmas.List.Elements.{All-head, All-tail}
use Rattle.wcv_core.specs.Names.{Name, Place, base}
use Rattle.wcv_syntax.specs.Model.{Type_form, component_type, defined_type, func_type, instance_type, resource_type, Defined_form, record_of, variant_of, tuple_of, flags_of, enum_of, simple}
use Rattle.wcv_syntax.specs.declared.component_type.ComponentDefinedType.{ComponentDefinedType}
use Rattle.wcv_syntax.specs.declared.component_type.ComponentDefinedType.TheVariants as def
use Rattle.wcv_syntax.specs.declared.component_type.ComponentValType.{ComponentValType}
use Rattle.wcv_syntax.specs.declared.component_type.ComponentValType.TheVariants as val
use Rattle.wcv_syntax.specs.declared.component_type.VariantCase.{VariantCase}
use Rattle.wcv_types.specs.ByName.{NamesDiffer}
use Rattle.wcv_types.specs.Identity.{of_node, identity_at}
use Rattle.wcv_types.specs.Tree.{Text, Extern_name, Head, Role, here, label, import, export, core_import, core_export, nothing, primitive, resource, defined, func, instance, component, type_entity, core_module, core_instance, node, Parts, none, part, entries, first_part, rest_parts, Sort, is_value, is_resource, is_instance, is_module, sort, type_of}
use Rattle.wcv_types.proofs.EntryParts.{exports_in-exports, imports_in-exports, exports_in-imports, imports_in-imports}
use Rattle.wcv_types.proofs.Lists.{some-inj}
use Rattle.wcv_matching.specs.Formed.{ExportsAlone, SidesAlone, IsFormed}
use Rattle.wcv_matching.specs.Matching.{named}
use Rattle.wcv_matching.specs.Orderly.{AreNamedApart}
use Rattle.wcv_lower.specs.Checks.{same_sort}
use Rattle.wcv_lower.specs.Context.{in_types, core_types}
use Rattle.wcv_lower.specs.Defined.{made_of, former, handle_index, simple_parts, written_parts}
use Rattle.wcv_lower.specs.Entries.{module_type_at}
use Rattle.wcv_lower.specs.Names.{names_by_place}
use Rattle.wcv_lower.specs.NewTypes.{renewed, new_reference}
use Rattle.wcv_lower.specs.Owned.{AllEntries}
use Rattle.wcv_lower.specs.Readers.{Made_parts, New_node, func_node, defined_node}
use Rattle.wcv_lower.specs.Trees.{Type_tree, Entries, type_entry, created, referenced, Tree_context, tree_reader, tree_parts, node_tree}
use Rattle.wcv_lower.specs.Types.{func_parts, type_made}
use Rattle.wcv_lower.specs.Values.{type_at, type_of_sort, resource_at, value_entry, Written_parts, option_entry, behind, parts_entries}
use Rattle.wcv_lower.proofs.SidesKept.{no_names}
use Rattle.wcv_growth.proofs.Alike.{SameKind, IsAlike}
use Rattle.wcv_growth.proofs.Bare.{OwnsNothing, EntriesOwnNothing, PartsOwnNothing, ValuesOwnNothing}
use Rattle.wcv_growth.proofs.Known.{mapped-some, then-some, all-get}
use Rattle.wcv_growth.proofs.Looking.{sorted-here}
use Rattle.wcv_growth.proofs.Tidy.{Known, HeadApart, IsPlain, TidyType, TidyIn, TidyEntry, KnowsMore, NoneAt, knows-same, tidy-more, known_at, known-base, knows-at}

-- parts that are tidy, where instances that are entries own nothing
abbrev pub AreTidy : Known → Parts Name Name → Type 0
AreTidy g ps = TidyIn g ps × EntriesOwnNothing ps

-- what is no instance owns nothing
owns-none : (s : Sort) (t : Type_tree) → same_sort s (sort t) ≡ true → same_sort s is_instance ≡ false → OwnsNothing t
owns-none s (node (instance i own) ps) e n = absurd (false≢true (sym n ∙ e))
owns-none s (node h ps) e n = refl

leaf-plain : (h : Head Name Name) → IsPlain h none
leaf-plain (resource r s) = refl
leaf-plain h = tt

leaf-values : (h : Head Name Name) → ValuesOwnNothing h none
leaf-values (func i b) = tt
leaf-values h = tt

-- ## Names of parts

-- neither an import nor an export
abbrev IsInner : Role → Type 0
IsInner (import n) = ⊥
IsInner (export n) = ⊥
IsInner k = Unit {0}

-- so are all parts
abbrev pub AreInner : Parts Name Name → Type 0
AreInner none = Unit {0}
AreInner (part k t ps) = IsInner k × AreInner ps

pub inner-named : (ps : Parts Name Name) → AreInner ps → AreNamedApart ps
inner-named none i = (no_names, no_names)
inner-named (part (import n) t ps) i = absurd i.0
inner-named (part (export n) t ps) i = absurd i.0
inner-named (part here t ps) i = inner-named ps i.1
inner-named (part (label l) t ps) i = inner-named ps i.1
inner-named (part (core_import m n) t ps) i = inner-named ps i.1
inner-named (part (core_export n) t ps) i = inner-named ps i.1

-- exports alone, and imports before them
pub exports-alone : (es : Entries) → ExportsAlone (entries export es none)
exports-alone [] = tt
exports-alone (e ∷ es) = exports-alone es

exports-aside : (es : Entries) → SidesAlone (entries export es none)
exports-aside [] = tt
exports-aside (e ∷ es) = exports-aside es

pub sides-alone : (is es : Entries) → SidesAlone (entries import is (entries export es none))
sides-alone [] es = exports-aside es
sides-alone (i ∷ is) es = sides-alone is es

-- have the names of the entries
pub exports-named : (es : Entries) → NamesDiffer (named es) → AreNamedApart (entries export es none)
exports-named es d = (
  subst (λ (xs : Entries). NamesDiffer (named xs)) (sym (imports_in-exports es)) no_names,
  subst (λ (xs : Entries). NamesDiffer (named xs)) (sym (exports_in-exports es)) d,
)

pub sides-named : (is es : Entries) → NamesDiffer (named is) → NamesDiffer (named es) → AreNamedApart (entries import is (entries export es none))
sides-named is es c d = (
  subst (λ (xs : Entries). NamesDiffer (named xs)) (sym (imports_in-imports is (entries export es none) ∙ ap (λ (xs : Entries). is ++ xs) (imports_in-exports es) ∙ append-nil is)) c,
  subst (λ (xs : Entries). NamesDiffer (named xs)) (sym (exports_in-imports is (entries export es none) ∙ exports_in-exports es)) d,
)

-- the value types in a written type
abbrev AreInside : Written_parts → Type 0
AreInside [] = Unit {0}
AreInside (p ∷ ps) = IsInner p.0 × AreInside ps

fields-inside : (fs : List (Text × ComponentValType)) → AreInside (map (λ f. (label f.0, Some f.1)) fs)
fields-inside [] = tt
fields-inside (f ∷ fs) = (tt, fields-inside fs)

cases-inside : (cs : List VariantCase) → AreInside (map (λ c. (label c.name, c.ty)) cs)
cases-inside [] = tt
cases-inside (c ∷ cs) = (tt, cases-inside cs)

values-inside : (vs : List ComponentValType) → AreInside (map (λ v. (here, Some v)) vs)
values-inside [] = tt
values-inside (v ∷ vs) = (tt, values-inside vs)

simple-inside : (d : ComponentDefinedType) → AreInside (simple_parts d)
simple-inside (def.List v) = (tt, tt)
simple-inside (def.Map k v) = (tt, (tt, tt))
simple-inside (def.FixedLengthList v n) = (tt, tt)
simple-inside (def.Option v) = (tt, tt)
simple-inside (def.Result o e) = (tt, (tt, tt))
simple-inside (def.Future o) = (tt, tt)
simple-inside (def.Stream o) = (tt, tt)
simple-inside d = tt

written-inside : (d : Defined_form) → AreInside (written_parts d)
written-inside (record_of fs) = fields-inside fs
written-inside (variant_of cs) = cases-inside cs
written-inside (tuple_of vs) = values-inside vs
written-inside (flags_of ns) = tt
written-inside (enum_of ns) = tt
written-inside (simple d) = simple-inside d

params-inside : (ps : List (Text × ComponentValType)) (o : Option ComponentValType) → AreInside (map (λ p. (label p.0, Some p.1)) ps ++ (here, o) ∷ [])
params-inside [] o = (tt, tt)
params-inside (p ∷ ps) o = (tt, params-inside ps o)

-- ## Nodes

-- a node with an identity of its own is no type entity, and no reference
node-plain : (i : Name) (h : Head Name Name) (ps : Parts Name Name) → identity_at h ≡ Some (of_node i) → IsAlike h ps × IsPlain h ps
node-plain i type_entity ps e = absurd (cc)
node-plain i (resource r s) ps e = absurd (cc)
node-plain i h ps e = (tt, tt)

module _ (g : Known) where
  -- ## Parts

  pub leaf-tidy : (h : Head Name Name) → IsAlike h none → HeadApart h → IsFormed h none → ((i : Name) → identity_at h ≡ Some (of_node i) → ⊥) → TidyType g (node h none)
  leaf-tidy h a b f n = (record { alike = a; bare = tt; values = leaf-values h; apart = b; plain = leaf-plain h; formed = λ l. f; named = (no_names, no_names); one = λ i e. absurd (n i e) }, tt)

  nothing-tidy : TidyEntry g (node nothing none)
  nothing-tidy = (refl, leaf-tidy nothing tt tt tt (λ i e. cc))

  pub one-more : (k : Role) (t : Type_tree) (ps : Parts Name Name) → TidyEntry g t → AreTidy g ps → AreTidy g (part k t ps)
  one-more (import n) t ps w v = ((w.1, v.0), (w.0, v.1))
  one-more (export n) t ps w v = ((w.1, v.0), (w.0, v.1))
  one-more k t ps w v = ((w.1, v.0), v.1)

  pub entries-tidy : (role : Extern_name → Role) (es : Entries) (rest : Parts Name Name) → All (λ e. TidyEntry g e.1) es → AreTidy g rest → AreTidy g (entries role es rest)
  entries-tidy role [] rest a w = w
  entries-tidy role (e ∷ es) rest a w =
      one-more (role e.0) e.1 (entries role es rest) (All-head (λ (x : Extern_name × Type_tree). TidyEntry g x.1) e es a)
      (entries-tidy role es rest (All-tail (λ (x : Extern_name × Type_tree). TidyEntry g x.1) e es a) w)

  -- ## Type entities

  both-tidy : (t u : Type_tree) → SameKind t u → TidyType g t → TidyType g u → TidyEntry g (type_of t u)
  both-tidy t u k v w = (refl, (record { alike = k; bare = tt; values = tt; apart = tt; plain = tt; formed = λ l. l; named = (no_names, no_names); one = λ i e. cc }, (v, (w, tt))))

  pub entry-tidy : (t : Type_tree) → TidyType g t → TidyEntry g (type_entry t)
  entry-tidy t w = both-tidy t t (refl, λ r. refl) w w

  first-tidy : (ps : Parts Name Name) → TidyIn g ps → TidyType g (first_part ps)
  first-tidy none w = nothing-tidy.1
  first-tidy (part k t ps) w = w.0

  rest-tidy : (ps : Parts Name Name) → TidyIn g ps → TidyIn g (rest_parts ps)
  rest-tidy none w = tt
  rest-tidy (part k t ps) w = w.1

  pub created-tidy : (t : Type_tree) → TidyEntry g t → TidyEntry g (created t)
  created-tidy (node type_entity ps) w = entry-tidy (first_part ps) (first-tidy ps w.1.1)
  created-tidy (node h ps) w = w

  pub referenced-tidy : (t : Type_tree) → TidyEntry g t → TidyType g (referenced t)
  referenced-tidy (node type_entity ps) w = first-tidy (rest_parts ps) (rest-tidy ps w.1.1)
  referenced-tidy (node h ps) w = w.1

  pub reference-tidy : (p : Place) → TidyEntry g (type_entry (new_reference names_by_place p))
  reference-tidy p = entry-tidy (new_reference names_by_place p) (leaf-tidy _ tt tt tt (λ i e. cc))

-- ## What is found

module _ (g : Known) (c : Tree_context) (h : AllEntries (TidyEntry g) c) where
  pub type-tidy : (k : ℕ) (t : Type_tree) → type_at c k ≡ Some t → TidyType g t
  type-tidy k t e =
      let m = mapped-some referenced (slice_get (c.space in_types) k) t e in
      subst (TidyType g) m.2 (referenced-tidy g m.0 (all-get (TidyEntry g) (c.space in_types) k m.0 (h.space in_types) m.1))

  pub sorted-tidy : (s : Sort) (k : ℕ) (t : Type_tree) → type_of_sort s c k ≡ Some t → TidyType g t
  sorted-tidy s k t e = type-tidy k t (sorted-here s (type_at c k) t e).0

  -- as an entry, where it is no instance
  pub plain-tidy : (s : Sort) (k : ℕ) (t : Type_tree) → same_sort s is_instance ≡ false → type_of_sort s c k ≡ Some t → TidyEntry g t
  plain-tidy s k t n e = (owns-none s t (sorted-here s (type_at c k) t e).1 n, sorted-tidy s k t e)

  pub module-tidy : (k : ℕ) (t : Type_tree) → module_type_at c k ≡ Some t → TidyEntry g t
  module-tidy k t e = all-get (TidyEntry g) (c.core core_types) k t (h.core core_types) (sorted-here is_module (slice_get (c.core core_types) k) t e).0

  pub value-tidy : (v : ComponentValType) (t : Type_tree) → value_entry c v ≡ Some t → TidyEntry g t
  value-tidy (val.Primitive p) t e = subst (TidyEntry g) (some-inj e) (refl, leaf-tidy g (primitive p) tt tt tt (λ i e. cc))
  value-tidy (val.Ty k) t e = plain-tidy is_value k t refl e

  option-tidy : (o : Option ComponentValType) (t : Type_tree) → option_entry c o ≡ Some t → TidyEntry g t
  option-tidy None t e = subst (TidyEntry g) (some-inj e) (nothing-tidy g)
  option-tidy (Some v) t e = value-tidy v t e

  abbrev MadeTidy : Made_parts tree_reader → Type 0
  MadeTidy qs = AreTidy g (tree_parts qs) × AreInner (tree_parts qs) × PartsOwnNothing (tree_parts qs)

  parts-tidy : (ps : Written_parts) (qs : Made_parts tree_reader) → AreInside ps → parts_entries c ps ≡ Some qs → MadeTidy qs
  parts-tidy [] qs i e = subst MadeTidy (some-inj e) ((tt, tt), tt, tt)
  parts-tidy (p ∷ ps) qs i e =
      let m = then-some (behind tree_reader p.0 (parts_entries c ps)) (option_entry c p.1) qs e in
      let n = mapped-some (λ (rest : Made_parts tree_reader). (p.0, m.0) ∷ rest) (parts_entries c ps) qs m.2 in
      let w : MadeTidy n.0 = parts-tidy ps n.0 i.1 n.1 in
      let o : TidyEntry g m.0 = option-tidy p.1 m.0 m.1 in
      subst MadeTidy n.2 (one-more g p.0 m.0 (tree_parts n.0) o w.0, (i.0, w.1), (o.0, w.2))

  made_of-tidy : (o : Option ℕ) (ps : Written_parts) (qs : Made_parts tree_reader) → AreInside ps → made_of c o ps ≡ Some qs → MadeTidy qs
  made_of-tidy None ps qs i e = parts-tidy ps qs i e
  made_of-tidy (Some k) ps qs i e =
      let m = mapped-some (λ (t : Type_tree). (here, t) ∷ []) (resource_at c k) qs e in
      let o : TidyEntry g m.0 = plain-tidy is_resource k m.0 refl m.1 in
      subst MadeTidy m.2 (one-more g here m.0 none o (tt, tt), (tt, tt), (o.0, tt))

-- ## What is made at a place

-- an entry there, once more is known
abbrev pub TidyThere : Place → Known → Type_tree → Type 0
TidyThere p g t = (f : Known) × KnowsMore p g f × TidyEntry f t

-- where nothing new is known
pub tidy-before : (p : Place) (g : Known) (t : Type_tree) → TidyEntry g t → TidyThere p g t
tidy-before p g t w = (g, knows-same p g, w)

module _ (p : Place) (g : Known) where
  -- what is known once a node is made there
  abbrev pub with_node : Type_tree → Known
  with_node t = known_at p (Some t) (λ x. None) g

  abbrev pub NodeTidy : New_node tree_reader → Type 0
  NodeTidy n = TidyType (with_node (node_tree (base p) n)) (node_tree (base p) n)

  module _ (unknown : NoneAt p g) where
    pub knows-node : (t : Type_tree) → KnowsMore p g (with_node t)
    knows-node t = knows-at p (Some t) (λ x. None) g unknown

    parts-more : (t : Type_tree) (ps : Parts Name Name) → TidyIn g ps → TidyIn (with_node t) ps
    parts-more t none w = tt
    parts-more t (part k u ps) w = (tidy-more g (with_node t) (knows-node t).more u w.0, parts-more t ps w.1)

    pub node-tidy : (h : Head Name Name) (ps : Parts Name Name) → identity_at h ≡ Some (of_node (base p)) → HeadApart h → IsFormed h ps → ValuesOwnNothing h ps → AreNamedApart ps → AreTidy g ps → TidyType (with_node (node h ps)) (node h ps)
    node-tidy h ps e b f v n w = (record { alike = plain.0; bare = w.1; values = v; apart = b; plain = plain.1; formed = λ l. f; named = n; one = one }, parts-more (node h ps) ps w.0)
      where
        plain : IsAlike h ps × IsPlain h ps
        plain = node-plain (base p) h ps e

        one : (i : Name) → identity_at h ≡ Some (of_node i) → with_node (node h ps) i ≡ Some (node h ps)
        one i d =
            let q : base p ≡ i = cc in
            subst (λ (x : Name). with_node (node h ps) x ≡ Some (node h ps)) q (known-base p (Some (node h ps)) (λ x. None) g)

    -- ## The node of a type item

    pub made-tidy : (c : Tree_context) → AllEntries (TidyEntry g) c → (t : Type_form) (n : New_node tree_reader) → type_made c t ≡ Some n → NodeTidy n
    made-tidy c h (defined_type d) n e =
        let m = mapped-some (λ (ps : Made_parts tree_reader). defined_node (former d) ps) (made_of c (handle_index d) (written_parts d)) n e in
        let w = made_of-tidy g c h (handle_index d) (written_parts d) m.0 (written-inside d) m.1 in
        subst NodeTidy m.2 (node-tidy (defined (base p) (former d)) (tree_parts m.0) refl tt tt tt (inner-named (tree_parts m.0) w.1) w.0)
    made-tidy c h (func_type f) n e =
        let m = mapped-some (λ (ps : Made_parts tree_reader). func_node f.async ps) (parts_entries c (func_parts f)) n e in
        let w = parts-tidy g c h (func_parts f) m.0 (params-inside f.params f.result) m.1 in
        subst NodeTidy m.2 (node-tidy (func (base p) f.async) (tree_parts m.0) refl tt tt w.2 (inner-named (tree_parts m.0) w.1) w.0)
    made-tidy c h (component_type ds) n e = cc
    made-tidy c h (instance_type ds) n e = cc
    made-tidy c h (resource_type rep dtor) n e = cc

    -- ## A type that is created again

    renewed-kind : (t : Type_tree) → SameKind (renewed names_by_place p t) t
    renewed-kind (node nothing ps) = (refl, λ r. refl)
    renewed-kind (node h ps) = (refl, λ r. refl)

    renewed-tidy : (t : Type_tree) → TidyType g t → TidyType (with_node (renewed names_by_place p t)) (renewed names_by_place p t)
    renewed-tidy (node (defined i k) ps) w = node-tidy (defined (base p) k) ps refl tt tt tt w.0.named (w.1, w.0.bare)
    renewed-tidy (node (func i b) ps) w = node-tidy (func (base p) b) ps refl tt tt w.0.values w.0.named (w.1, w.0.bare)
    renewed-tidy (node (instance i own) ps) w = node-tidy (instance (base p) own) ps refl tt (w.0.formed tt) tt w.0.named (w.1, w.0.bare)
    renewed-tidy (node (component i ins outs) ps) w = node-tidy (component (base p) ins outs) ps refl w.0.apart (w.0.formed tt) tt w.0.named (w.1, w.0.bare)
    renewed-tidy (node (core_module i n) ps) w = node-tidy (core_module (base p) n) ps refl tt (w.0.formed tt) tt w.0.named (w.1, w.0.bare)
    renewed-tidy (node (core_instance i n) ps) w = node-tidy (core_instance (base p) n) ps refl tt tt tt w.0.named (w.1, w.0.bare)
    renewed-tidy (node (resource r s) ps) w =
        (record { alike = tt; bare = w.0.bare; values = tt; apart = tt; plain = w.0.plain; formed = λ l. tt; named = w.0.named; one = λ i e. cc }, parts-more (renewed names_by_place p (node (resource r s) ps)) ps w.1)
    renewed-tidy (node h ps) w = tidy-more g (with_node (node h ps)) (knows-node (node h ps)).more (node h ps) w

    pub again-tidy : (t : Type_tree) → TidyType g t → TidyThere p g (type_of (renewed names_by_place p t) t)
    again-tidy t w =
        let u : Type_tree = renewed names_by_place p t in
        (with_node u, knows-node u, both-tidy (with_node u) u t (renewed-kind t) (renewed-tidy t w) (tidy-more g (with_node u) (knows-node u).more t w))
