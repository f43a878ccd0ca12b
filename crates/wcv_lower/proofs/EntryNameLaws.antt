-- The causes of a name are the same under a renaming.
use Rattle.std.proofs.Common.{◌≡◌, List, [], ◌∷◌, ◌++◌, map, refl, ap, sym, ◌∙◌, Bool, true, false, not, ◌&&◌, cond, Some, None}
use Rattle.std.specs.Prelude.{Option, bytes_eq, codes}
use Rattle.std.specs.Map.{lookup}
use Rattle.std.specs.Option.{option_map}
use Rattle.std.proofs.lemmas.List.{map-append}
use Rattle.wcv_core.specs.Label.{is_among}
use Rattle.wcv_core.specs.Names.{Name, same}
use Rattle.wcv_core.specs.declared.error.ErrorKind.TheVariants as kind
use Rattle.wcv_core.specs.declared.features.WasmFeatures.{WasmFeatures}
use Rattle.wcv_syntax.specs.ExternName.{Access, call, get, set, Form, item, constructor, method, static, interface, access_of, getter_of, spelled}
use Rattle.wcv_syntax.specs.FormOf.{form_of}
use Rattle.wcv_types.specs.Identity.{Identity, of_node, of_reference, identity_at, rename_identity}
use Rattle.wcv_types.specs.Rename.{rename, rename_parts}
use Rattle.wcv_types.specs.Tree.{Text, Extern_name, Sort, is_nothing, is_type, nothing, resource, defined, func, instance, own_of, borrow_of, result_of, here, label, import, export, core_import, core_export, node, Parts, none, part, sort, head, created, first_part}
use Rattle.wcv_types.proofs.Identity.{same_under, identity-same}
use Rattle.wcv_types.proofs.Lists.{map-map}
use Rattle.wcv_names.specs.Externs as externs
use Rattle.wcv_names.specs.ResourceNames.{Reference, Resource_names, same_reference, is_named_so}
use Rattle.wcv_core.specs.TextSet.{is_text}
use Rattle.wcv_names.specs.Rules.{is_own, is_borrow, if_ok, is_left_out, Params, params, gives, takes_self, rest, is_empty, is_single, is_used_so, function_fits, fits, by_name, getter_in, gotten, first_type, taken, is_given, is_paired_by, is_paired, follows}
use Rattle.wcv_types.specs.SameSeen.{alike}
use Rattle.wcv_names.specs.WholeNames.{is_bad_name, lacks_feature}
use Rattle.wcv_names.proofs.Renamed.{alike-renamed}
use Rattle.wcv_types.specs.Unfold.{Type_tree}
use Rattle.wcv_names.specs.Rules.{Entries}
use Rattle.wcv_lower.specs.EntryNames.{reference_in, references_by, named_by, named_references, resource_names, name_checks, bare_name_checks}
use Rattle.wcv_lower.specs.Mapped.{map_entries}
use Rattle.wcv_lower.specs.Renamed.{Renaming}
use Rattle.wcv_lower.proofs.TreeLaws.{sort-renamed, created-renamed}

module _ (w : Renaming) where
  abbrev f : Name → Name
  f = w.resources.to

  abbrev g : Name → Name
  g = w.identities.to

  abbrev to : Type_tree → Type_tree
  to t = rename f g t

  -- ## References

  abbrev reference_to : Reference → Reference
  reference_to q = (f q.0, g q.1)

  abbrev named_to : Reference × Text → Reference × Text
  named_to p = (reference_to p.0, p.1)

  abbrev names_to : Resource_names → Resource_names
  names_to ns = record { references = map named_to ns.references; names = ns.names }

  reference-same : (q r : Reference) → same_reference (reference_to q) (reference_to r) ≡ same_reference q r
  reference-same q r =
      let a : same (f q.0) (f r.0) ≡ same q.0 r.0 = same_under f w.resources.back q.0 r.0 (w.resources.is_back q.0) (w.resources.is_back r.0) in
      let b : same (g q.1) (g r.1) ≡ same q.1 r.1 = same_under g w.identities.back q.1 r.1 (w.identities.is_back q.1) (w.identities.is_back r.1) in
      λ j. a j && b j

  lookup-same : (q : Reference) (ps : List (Reference × Text)) → lookup (same_reference (reference_to q)) (map named_to ps) ≡ lookup (same_reference q) ps
  lookup-same q [] = refl
  lookup-same q (p ∷ ps) =
      let a : same_reference (reference_to q) (reference_to p.0) ≡ same_reference q p.0 = reference-same q p.0 in
      let b : lookup (same_reference (reference_to q)) (map named_to ps) ≡ lookup (same_reference q) ps = lookup-same q ps in
      λ j. cond (a j) (Some p.1) (b j)

  -- ## Types of values

  first : (ps : Parts Name Name) → first_part (rename_parts f g ps) ≡ to (first_part ps)
  first none = refl
  first (part r t ps) = refl

  ok : (t : Type_tree) → if_ok (to t) ≡ to (if_ok t)
  ok (node (defined i result_of) ps) = first ps
  ok _ = refl

  left_out-same : (t : Type_tree) → is_left_out (to t) ≡ is_left_out t
  left_out-same (node nothing ps) = refl
  left_out-same _ = refl

  -- ## Functions

  abbrev params_to : Params → Params
  params_to ps = map (λ p. (p.0, to p.1)) ps

  params-same : (ps : Parts Name Name) → params (rename_parts f g ps) ≡ params_to (params ps)
  params-same none = refl
  params-same (part (label l) t ps) = ap (λ (qs : Params). (l, to t) ∷ qs) (params-same ps)
  params-same (part here t ps) = params-same ps
  params-same (part (import n) t ps) = params-same ps
  params-same (part (export n) t ps) = params-same ps
  params-same (part (core_import m n) t ps) = params-same ps
  params-same (part (core_export n) t ps) = params-same ps

  gives-same : (ps : Parts Name Name) → gives (rename_parts f g ps) ≡ to (gives ps)
  gives-same none = refl
  gives-same (part (label l) t ps) = gives-same ps
  gives-same (part here t ps) = refl
  gives-same (part (import n) t ps) = refl
  gives-same (part (export n) t ps) = refl
  gives-same (part (core_import m n) t ps) = refl
  gives-same (part (core_export n) t ps) = refl

  rest-same : (ps : Params) → rest (params_to ps) ≡ params_to (rest ps)
  rest-same [] = refl
  rest-same (p ∷ ps) = refl

  empty-same : (ps : Params) → is_empty (params_to ps) ≡ is_empty ps
  empty-same [] = refl
  empty-same (p ∷ ps) = refl

  single-same : (ps : Params) → is_single (params_to ps) ≡ is_single ps
  single-same [] = refl
  single-same (p ∷ ps) = empty-same ps

  used : (a : Access) (async : Bool) (ps : Params) (t : Type_tree) → is_used_so a async (params_to ps) (to t) ≡ is_used_so a async ps t
  used call async ps t = refl
  used get async ps t =
      let e : is_empty (params_to ps) ≡ is_empty ps = empty-same ps in
      let o : is_left_out (if_ok (to t)) ≡ is_left_out (if_ok t) = ap is_left_out (ok t) ∙ left_out-same (if_ok t) in
      λ j. not async && (e j && not (o j))
  used set async ps t =
      let e : is_single (params_to ps) ≡ is_single ps = single-same ps in
      let o : is_left_out (if_ok (to t)) ≡ is_left_out (if_ok t) = ap is_left_out (ok t) ∙ left_out-same (if_ok t) in
      λ j. not async && (e j && o j)

  -- ## Getters and setters

  abbrev listed_to : List (Text × Type_tree) → List (Text × Type_tree)
  listed_to es = map (λ e. (e.0, to e.1)) es

  by_name-same : (es : Entries) → by_name (map_entries to es) ≡ listed_to (by_name es)
  by_name-same [] = refl
  by_name-same (e ∷ es) = ap (λ (xs : List (Text × Type_tree)). (e.0.name, to e.1) ∷ xs) (by_name-same es)

  first-same : (n : Text) (es : List (Text × Type_tree)) → lookup (bytes_eq n) (listed_to es) ≡ option_map to (lookup (bytes_eq n) es)
  first-same n [] = refl
  first-same n (e ∷ es) = go (bytes_eq n e.0) (first-same n es)
    where
      go : (b : Bool) → lookup (bytes_eq n) (listed_to es) ≡ option_map to (lookup (bytes_eq n) es) → cond b (Some (to e.1)) (lookup (bytes_eq n) (listed_to es)) ≡ option_map to (cond b (Some e.1) (lookup (bytes_eq n) es))
      go true h = refl
      go false h = h

  gotten-same : (t : Type_tree) → gotten (to t) ≡ to (gotten t)
  gotten-same (node (func i async) ps) = ap if_ok (gives-same ps) ∙ ok (gives ps)
  gotten-same _ = refl

  first_type-same : (ps : Params) → first_type (params_to ps) ≡ to (first_type ps)
  first_type-same [] = refl
  first_type-same (p ∷ ps) = refl

  taken-same : (n : Form) (ps : Params) → taken n (params_to ps) ≡ to (taken n ps)
  taken-same (method a r l) ps = ap first_type (rest-same ps) ∙ first_type-same (rest ps)
  taken-same (item a l) ps = first_type-same ps
  taken-same (constructor r) ps = first_type-same ps
  taken-same (static a r l) ps = first_type-same ps
  taken-same (interface n p i v) ps = first_type-same ps

  given : (t : Type_tree) (o : Option Type_tree) → is_given (to t) (option_map to o) ≡ is_given t o
  given t None = refl
  given t (Some u) = ap (alike (to t)) (gotten-same u) ∙ alike-renamed f w.resources.back g w.resources.is_back t (gotten u)

  paired_by : (a : Access) (t : Type_tree) (o : Option Type_tree) → is_paired_by a (to t) (option_map to o) ≡ is_paired_by a t o
  paired_by call t o = refl
  paired_by get t o = refl
  paired_by set t o = given t o

  paired : (es : Entries) (n : Form) (t : Type_tree) → is_paired (map_entries to es) n (to t) ≡ is_paired es n t
  paired es n (node (func i async) ps) =
      let l : Text = spelled (getter_of n) in
      let a : taken n (params (rename_parts f g ps)) ≡ to (taken n (params ps)) = ap (taken n) (params-same ps) ∙ taken-same n (params ps) in
      let b : getter_in n (map_entries to es) ≡ option_map to (getter_in n es) = ap (lookup (bytes_eq l)) (by_name-same es) ∙ first-same l (by_name es) in
      (λ j. is_paired_by (access_of n) (a j) (b j)) ∙ paired_by (access_of n) (taken n (params ps)) (getter_in n es)
  paired es n _ = refl

  -- ## Entries

  instance-same : (t : Type_tree) → externs.is_instance_tree (to t) ≡ externs.is_instance_tree t
  instance-same (node (instance i rs) ps) = refl
  instance-same _ = refl

  entry_names-same : (es : Entries) → externs.entry_names (map_entries to es) ≡ externs.entry_names es
  entry_names-same [] = refl
  entry_names-same (e ∷ es) = ap (λ (xs : List Text). e.0.name ∷ xs) (entry_names-same es)

  -- ## Rules and causes

  module _ (ns : Resource_names) where
    named_so : (r : Text) (t : Type_tree) → is_named_so (names_to ns) r (to t) ≡ is_named_so ns r t
    named_so r (node (resource q s) ps) = ap (is_text r) (lookup-same (q, s) ns.references)
    named_so r _ = refl

    own : (r : Text) (t : Type_tree) → is_own (names_to ns) r (to t) ≡ is_own ns r t
    own r (node (defined i own_of) ps) = ap (is_named_so (names_to ns) r) (first ps) ∙ named_so r (first_part ps)
    own r _ = refl

    borrow : (r : Text) (t : Type_tree) → is_borrow (names_to ns) r (to t) ≡ is_borrow ns r t
    borrow r (node (defined i borrow_of) ps) = ap (is_named_so (names_to ns) r) (first ps) ∙ named_so r (first_part ps)
    borrow r _ = refl

    self : (r : Text) (ps : Params) → takes_self (names_to ns) r (params_to ps) ≡ takes_self ns r ps
    self r [] = refl
    self r (p ∷ ps) = ap (λ (b : Bool). bytes_eq p.0 (codes "self") && b) (borrow r p.1)

    function : (n : Form) (async : Bool) (ps : Params) (t : Type_tree) → function_fits (names_to ns) n async (params_to ps) (to t) ≡ function_fits ns n async ps t
    function (item a l) async ps t = used a async ps t
    function (constructor r) async ps t = ap (λ (b : Bool). not async && b) (ap (is_own (names_to ns) r) (ok t) ∙ own r (if_ok t))
    function (method a r l) async ps t =
        let e : takes_self (names_to ns) r (params_to ps) ≡ takes_self ns r ps = self r ps in
        let u : is_used_so a async (rest (params_to ps)) (to t) ≡ is_used_so a async (rest ps) t = ap (λ (qs : Params). is_used_so a async qs (to t)) (rest-same ps) ∙ used a async (rest ps) t in
        λ j. e j && u j
    function (static a r l) async ps t = ap (λ (b : Bool). is_among r ns.names && b) (used a async ps t)
    function (interface n p i v) async ps t = refl

    fits-same : (n : Form) (t : Type_tree) → fits (names_to ns) n (to t) ≡ fits ns n t
    fits-same n (node (func i async) ps) =
        let p : params (rename_parts f g ps) ≡ params_to (params ps) = params-same ps in
        let q : gives (rename_parts f g ps) ≡ to (gives ps) = gives-same ps in
        (λ j. function_fits (names_to ns) n async (p j) (q j)) ∙ function n async (params ps) (gives ps)
    fits-same n _ = refl

    follows-same : (es : Entries) (n : Form) (t : Type_tree) → follows (names_to ns) (map_entries to es) n (to t) ≡ follows ns es n t
    follows-same es n t =
        let a : fits (names_to ns) n (to t) ≡ fits ns n t = fits-same n t in
        let b : is_paired (map_entries to es) n (to t) ≡ is_paired es n t = paired es n t in
        λ j. a j && b j

    breaks-same : (es : Entries) (n : Option Form) (t : Type_tree) → externs.breaks_rule (names_to ns) (map_entries to es) n (to t) ≡ externs.breaks_rule ns es n t
    breaks-same es None t = refl
    breaks-same es (Some n) t = ap not (follows-same es n t)

    checks-same : (fs : WasmFeatures) (es : Entries) (n : Extern_name) (t : Type_tree) → externs.name_checks (names_to ns) fs (map_entries to es) n (to t) ≡ externs.name_checks ns fs es n t
    checks-same fs es n t =
        let a : externs.is_instance_tree (to t) ≡ externs.is_instance_tree t = instance-same t in
        let b : externs.breaks_rule (names_to ns) (map_entries to es) (form_of n.name) (to t) ≡ externs.breaks_rule ns es (form_of n.name) t = breaks-same es (form_of n.name) t in
        let c : externs.entry_names (map_entries to es) ≡ externs.entry_names es = entry_names-same es in
        λ j. (kind.Name, is_bad_name (a j) n) ∷ (kind.Feature, lacks_feature fs n) ∷ (kind.MethodName, b j) ∷ (kind.Conflict, externs.conflicts (c j) n.name) ∷ []

  -- ## Names of resources

  reference_in-renamed : (o : Option Identity) → reference_in (option_map (rename_identity f g) o) ≡ map reference_to (reference_in o)
  reference_in-renamed (Some (of_reference r s)) = refl
  reference_in-renamed (Some (of_node i)) = refl
  reference_in-renamed None = refl

  head-renamed : (t : Type_tree) → identity_at (head (to t)) ≡ option_map (rename_identity f g) (identity_at (head t))
  head-renamed (node h ps) = identity-same f g h

  references-renamed : (s : Sort) (t : Type_tree) → references_by s (to t) ≡ map reference_to (references_by s t)
  references-renamed is_type t =
      ap (λ (u : Type_tree). reference_in (identity_at (head u))) (created-renamed f g t) ∙ ap reference_in (head-renamed (created t)) ∙ reference_in-renamed (identity_at (head (created t)))
  references-renamed is_nothing t = refl
  references-renamed x t = refl

  named_by-renamed : (e : Extern_name × Type_tree) → named_by (e.0, to e.1) ≡ map named_to (named_by e)
  named_by-renamed e =
      let rs : references_by (sort (to e.1)) (to e.1) ≡ map reference_to (references_by (sort e.1) e.1) =
      ap (λ (s : Sort). references_by s (to e.1)) (sort-renamed f g e.1) ∙ references-renamed (sort e.1) e.1 in
      ap (λ (xs : List Reference). map (λ (r : Reference). (r, e.0.name)) xs) rs ∙
      map-map (λ (r : Reference). (r, e.0.name)) reference_to (references_by (sort e.1) e.1) ∙
      sym (map-map named_to (λ (r : Reference). (r, e.0.name)) (references_by (sort e.1) e.1))

  named-renamed : (es : Entries) → named_references (map_entries to es) ≡ map named_to (named_references es)
  named-renamed [] = refl
  named-renamed (e ∷ es) =
      let a : named_by (e.0, to e.1) ≡ map named_to (named_by e) = named_by-renamed e in
      let b : named_references (map_entries to es) ≡ map named_to (named_references es) = named-renamed es in
      (λ j. a j ++ b j) ∙ sym (map-append named_to (named_by e) (named_references es))

  resource_names-renamed : (es : Entries) → resource_names (map_entries to es) ≡ names_to (resource_names es)
  resource_names-renamed es =
      let a : named_references (map_entries to es) ≡ map named_to (named_references es) = named-renamed es in
      let b : map (λ (p : Reference × Text). p.1) (named_references (map_entries to es)) ≡ map (λ (p : Reference × Text). p.1) (named_references es) =
      ap (λ (ps : List (Reference × Text)). map (λ (p : Reference × Text). p.1) ps) a ∙ map-map (λ (p : Reference × Text). p.1) named_to (named_references es) in
      λ j. record { references = a j; names = b j }

  pub name_checks-renamed : (fs : WasmFeatures) (es : Entries) (n : Extern_name) (t : Type_tree) →
      name_checks fs (map_entries (rename w.resources.to w.identities.to) es) n (rename w.resources.to w.identities.to t) ≡ name_checks fs es n t
  name_checks-renamed fs es n t =
      ap (λ (ns : Resource_names). externs.name_checks ns fs (map_entries to es) n (to t)) (resource_names-renamed es) ∙ checks-same (resource_names es) fs es n t

  pub bare_name_checks-renamed : (fs : WasmFeatures) (es : Entries) (n : Extern_name) (t : Type_tree) →
      bare_name_checks fs (map_entries (rename w.resources.to w.identities.to) es) n (rename w.resources.to w.identities.to t) ≡ bare_name_checks fs es n t
  bare_name_checks-renamed fs es n t = checks-same (resource_names []) fs es n t
