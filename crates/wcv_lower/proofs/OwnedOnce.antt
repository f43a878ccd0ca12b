-- What a declared instance type owns was introduced or made again at its declarations, each resource once.
use Rattle.std.proofs.Common.{◌≡◌, ℕ, zero, suc, ◌<◌, List, [], ◌∷◌, ◌++◌, refl, sym, ◌∙◌, ap, subst, arith, Bool, true, false, cond, ◌⊎◌, inl, inr, Some, None}
use Rattle.std.specs.Prelude.{Option}
use Rattle.std.specs.Option.{option_map}
use Rattle.std.proofs.lemmas.Bool.{false≢true}
use Rattle.wcv_core.specs.Names.{Name, Place, number, stamp, base, at, stamped, aside, deeper, under, member}
use Rattle.wcv_core.specs.declared.features.WasmFeatures.{WasmFeatures}
use Rattle.wcv_core.proofs.Places.{under-refl, one-item}
use Rattle.wcv_syntax.specs.Model.{Form, core_type_item, type_item, import_item, Type_form, defined_type, func_type, component_type, instance_type, resource_type, Decl, core_type_decl, type_decl, alias_decl, export_decl, import_decl, Decls, no_decls, declare}
use Rattle.wcv_types.specs.Tree.{owned}
use Rattle.wcv_types.specs.Unfold.{Type_tree}
use Rattle.wcv_types.proofs.Lists.{some-inj}
use Rattle.wcv_lower.specs.Aliases.{alias_step}
use Rattle.wcv_lower.specs.Context.{Kind, concrete, declares_instance, declares_component, importing, exporting, in_types, at_distance, charge}
use Rattle.wcv_lower.specs.Declared.{inside, around, closed_as, ended, applied, declared_export_step, read_type, read_decl, read_decls}
use Rattle.wcv_lower.specs.Ending.{any_free, kept, component_of, component_made, instance_made, declared_made}
use Rattle.wcv_lower.specs.Entries.{extern_name, written, is_new, new_there}
use Rattle.wcv_lower.specs.Growth.{step, grow}
use Rattle.wcv_lower.specs.Names.{Names, names_by_place}
use Rattle.wcv_lower.specs.Owned.{AllEntries, Everywhere, own_resources, IsOwn, IsOnce, OwnsOnce, IsMadeAt}
use Rattle.wcv_lower.specs.Readers.{Maker}
use Rattle.wcv_lower.specs.Step.{Change, appends, lists, introduces, defines, creates, core_appends, interns, charges, types_slots, marks_value, uses_value, names_start, Step, change, apply, enters}
use Rattle.wcv_lower.specs.Trees.{tree_reader, Tree_context, Tree_stack, tree_maker, node_tree, type_entry}
use Rattle.wcv_lower.specs.Types.{added}
use Rattle.wcv_lower.proofs.Applied.{change_at_cases, applied_has}
use Rattle.wcv_lower.proofs.Bringing.{OfAny, of_some, map-some, any_mapped, any_if, AllBring, enters_bring, BroughtOf, written_has}
use Rattle.wcv_lower.proofs.Calm.{inside_has, stood, around_has}
use Rattle.wcv_lower.proofs.BroughtByAliases.{aliases_bring}
use Rattle.wcv_lower.proofs.CalmEnds.{exports_in_it, sides_in_it, closed_bring, closed_own}
use Rattle.wcv_lower.proofs.DeclaredLaws.{then-some}
use Rattle.wcv_lower.proofs.ItemsBring.{items_bring_given}
use Rattle.wcv_lower.proofs.Members.{names_in, defined_own}
use Rattle.wcv_lower.proofs.Once.{once_right, new_names, applied_cases, applied_once}
use Rattle.wcv_lower.proofs.OnceSteps.{AreMade, enters_once, written_once, types_once, core_types_once, aliases_once}
use Rattle.wcv_lower.proofs.Owning.{owns_once_inherited, owns_once_given}

-- ## Contexts further out

-- it stood there, with the same types and resources
abbrev StoodSame : Tree_stack → ℕ → Tree_context → Type 0
StoodSame s j d = (c : Tree_context) × (at_distance j s ≡ Some c) × (d.space in_types ≡ c.space in_types) × (own_resources d ≡ own_resources c)

change_outer : (x : Change tree_reader) (s : Tree_stack) (j : ℕ) (d : Tree_context) → at_distance (suc j) (change x s) ≡ Some d → StoodSame s (suc j) d
change_outer (appends k x) s j d e = (d, e, refl, refl)
change_outer (lists i n x) s j d e = (d, e, refl, refl)
change_outer (introduces i rs) s j d e = (d, e, refl, refl)
change_outer (defines r v) s j d e = (d, e, refl, refl)
change_outer (creates i is) s j d e = (d, e, refl, refl)
change_outer (core_appends k x) s j d e = (d, e, refl, refl)
change_outer (interns gs) s j d e = (d, e, refl, refl)
change_outer (charges zero n) s j d e = (d, e, refl, refl)
change_outer (types_slots v) s j d e = (d, e, refl, refl)
change_outer (marks_value b) s j d e = (d, e, refl, refl)
change_outer (uses_value k) s j d e = (d, e, refl, refl)
change_outer names_start s j d e = (d, e, refl, refl)
change_outer (charges (suc k) n) s j d e =
    let w = change_at_cases k (charge {X = tree_reader} n) s.outer j d e in
    go w.0 w.1 w.2
  where
    go : (c : Tree_context) → at_distance (suc j) s ≡ Some c → (c ≡ d) ⊎ (charge {X = tree_reader} n c ≡ d) → StoodSame s (suc j) d
    go c q (inl f) = (c, q, ap (λ (x : Tree_context). x.space in_types) (sym f), ap (λ (x : Tree_context). own_resources x) (sym f))
    go c q (inr f) = (c, q, ap (λ (x : Tree_context). x.space in_types) (sym f), ap (λ (x : Tree_context). own_resources x) (sym f))

-- one after another
same_then : (s t : Tree_stack) (j : ℕ) (d : Tree_context) → ((c : Tree_context) → at_distance j t ≡ Some c → StoodSame s j c) → StoodSame t j d → StoodSame s j d
same_then s t j d h w =
    let v = h w.0 w.1 in
    (v.0, v.1, w.2 ∙ v.2, w.3 ∙ v.3)

applied_outer : (p : Step tree_reader) (s : Tree_stack) (j : ℕ) (d : Tree_context) → at_distance (suc j) (apply p s) ≡ Some d → StoodSame s (suc j) d
applied_outer [] s j d e = (d, e, refl, refl)
applied_outer (x ∷ p) s j d e = same_then s (change x s) (suc j) d (change_outer x s j) (applied_outer p (change x s) j d e)

-- ## What a declaration does

record Grew (q : Place) (s u : Tree_stack) : Type 0 where
  pub own : (r : Name) → IsOwn u.top r → IsOwn s.top r ⊎ IsMadeAt q r
  pub once : IsOnce (own_resources s.top) → ((r : Name) → IsOwn s.top r → IsMadeAt q r → ⊥) → IsOnce (own_resources u.top)
  pub outer : (j : ℕ) (d : Tree_context) → at_distance (suc j) u ≡ Some d → StoodSame s (suc j) d
  pub has : Everywhere OwnsOnce u

step_grew : (q : Place) (s : Tree_stack) (p : Step tree_reader) → Everywhere OwnsOnce s → AllBring OwnsOnce (λ r. Unit {0}) p → AreMade q (new_names p) → Grew q s (apply p s)
step_grew q s p all b m = record {
  own = λ r o. go r (applied_cases p s r o);
  once = λ a d. applied_once p s a m.once (λ r o e. d r o (m.made r e));
  outer = applied_outer p s;
  has = applied_has OwnsOnce (λ r. Unit {0}) p s all b;
}
  where
    go : (r : Name) → IsOwn s.top r ⊎ (member r (new_names p) ≡ true) → IsOwn s.top r ⊎ IsMadeAt q r
    go r (inl o) = inl o
    go r (inr e) = inr (m.made r e)

-- a step that is applied keeps what is owned once
applied_grew : (q : Place) (s u : Tree_stack) (o : Option (Step tree_reader)) → Everywhere OwnsOnce s → OfAny (AllBring OwnsOnce (λ r. Unit {0})) o → OfAny (λ p. AreMade q (new_names p)) o → applied s o ≡ Some u → Grew q s u
applied_grew q s u o all b m e =
    let w = map-some (λ p. apply p s) o u e in
    subst (Grew q s) (some-inj w.2) (step_grew q s w.0 all (of_some (AllBring OwnsOnce (λ r. Unit {0})) o w.0 b w.1) (of_some (λ p. AreMade q (new_names p)) o w.0 m w.1))

-- what was made at two places was made at one
one_place : (p q : Place) (r : Name) → IsMadeAt p r → IsMadeAt q r → p ≡ q
one_place p q (base x) e f = sym e ∙ f
one_place p q (at x y) e f = sym e ∙ f
one_place p q (number k) e f = absurd e
one_place p q (stamp k) e f = absurd e
one_place p q (stamped x) e f = absurd e
one_place p q (aside x) e f = absurd e

one_decl : (p : Place) (j n : ℕ) → deeper p j ≡ deeper p n → j ≡ n
one_decl p j n e = one-item p j n (deeper p n) (subst (λ (x : Place). under (deeper p j) x ≡ true) e (under-refl (deeper p j))) (under-refl (deeper p n))

-- ## Declarations

-- at one of the first n declarations
abbrev MadeBefore : Place → ℕ → Name → Type 0
MadeBefore p n r = (j : ℕ) × (j < n) × IsMadeAt (deeper p j) r

made_before : (p : Place) (n : ℕ) (s : Tree_stack) (r : Name) → ((r : Name) → IsOwn s.top r → MadeBefore p n r) → IsOwn s.top r ⊎ IsMadeAt (deeper p n) r → MadeBefore p (suc n) r
made_before p n s r b (inl o) =
    let w = b r o in
    let l = w.1 in
    (w.0, omega (arith, l), w.2)
made_before p n s r b (inr m) = (n, omega arith, m)

not_before : (p : Place) (n : ℕ) (s : Tree_stack) (r : Name) → ((r : Name) → IsOwn s.top r → MadeBefore p n r) → IsOwn s.top r → IsMadeAt (deeper p n) r → ⊥
not_before p n s r b o m =
    let w = b r o in
    let l = w.1 in
    let e = one_decl p w.0 n (one_place (deeper p w.0) (deeper p n) r w.2 m) in
    omega (arith, l, e)

record AllGrew (p : Place) (s u : Tree_stack) : Type 0 where
  pub own : (r : Name) → IsOwn u.top r → (j : ℕ) × IsMadeAt (deeper p j) r
  pub once : IsOnce (own_resources u.top)
  pub outer : (j : ℕ) (d : Tree_context) → at_distance (suc j) u ≡ Some d → StoodSame s (suc j) d
  pub has : Everywhere OwnsOnce u

-- the node at the end owns once
node_once : (i : Name) (k : Kind) (c : Tree_context) → AllEntries OwnsOnce c → IsOnce (own_resources c) → OfAny (λ n. OwnsOnce (node_tree i n)) (declared_made k c)
node_once i k c all a = go k
  where
    component : OfAny (λ n. OwnsOnce (node_tree i n)) (component_made c)
    component = one (any_free tree_reader c.defined (c.side importing)) (kept tree_reader c.defined (c.side exporting))
      where
        one : (b : Bool) (o : Option (List (Name × List ℕ))) → OfAny (λ n. OwnsOnce (node_tree i n)) (cond b None (option_map (component_of c) o))
        one true o = tt
        one false None = tt
        one false (Some ds) = (tt, sides_in_it owns_once_inherited c all (c.side importing) (c.side exporting) refl refl)

    go : (k : Kind) → OfAny (λ n. OwnsOnce (node_tree i n)) (declared_made k c)
    go declares_instance = (once_right (names_in c.imported) (names_in c.defined) a, exports_in_it owns_once_inherited c all (c.side exporting) refl)
    go declares_component = component
    go concrete = component

module _ (fs : WasmFeatures) where
  abbrev mk : Place → Maker tree_reader
  mk = tree_maker names_by_place

  end_grew : (k : Kind) (q : Place) (s v u : Tree_stack) → AllGrew q (inside k s) v → ended k (mk q) v ≡ Some u → Grew q s u
  end_grew k q s v u g e =
      let t = then-some (λ t. option_map (λ n. apply (closed_as k (mk q) n) t) (declared_made k v.top)) (around v) u e in
      let n = map-some (λ n. apply (closed_as {X = tree_reader} k (mk q) n) t.0) (declared_made k v.top) u t.2 in
      let i : Name = base q in
      let closing : Step tree_reader = closed_as k (mk q) n.0 in
      let top = g.outer zero t.0.top (stood v t.0 t.1 zero t.0.top refl) in
      let same : own_resources (apply closing t.0).top ≡ own_resources s.top = closed_own k (mk q) n.0 t.0 ∙ (top.3 ∙ ap (λ (c : Tree_context). own_resources c) (sym (some-inj top.1))) in
      subst (Grew q s) (some-inj n.2)
      (record {
        own = λ r o. inl (subst (λ (xs : List Name). member r xs ≡ true) same o);
        once = λ a d. subst IsOnce (sym same) a;
        outer = λ j d f. same_then s t.0 (suc j) d (λ c h. g.outer (suc j) c (stood v t.0 t.1 (suc j) c h)) (applied_outer closing t.0 j d f);
        has = applied_has OwnsOnce (λ r. Unit {0}) closing t.0 (around_has v t.0 t.1 OwnsOnce g.has)
            (closed_bring owns_once_inherited (λ r. Unit {0}) n.0 names_by_place q k (of_some (λ n. OwnsOnce (node_tree i n)) (declared_made k v.top) n.0 (node_once i k v.top (g.has zero v.top refl) g.once) n.1));
      })

  export_grew : (q : Place) (s u : Tree_stack) (x : _) (r : _) → Everywhere OwnsOnce s → applied s (declared_export_step (mk q) s.top x r) ≡ Some u → Grew q s u
  export_grew q s u x r all e =
      let b : Bool = is_new exporting (extern_name x).name s.top in
      let o = new_there exporting (extern_name x) s.top (written (mk q) s.top r) in
      applied_grew q s u (declared_export_step (mk q) s.top x r) all
      (any_mapped (BroughtOf owns_once_inherited (λ r. Unit {0})) (AllBring OwnsOnce (λ r. Unit {0})) (enters exporting (extern_name x)) (enters_bring owns_once_inherited (λ r. Unit {0}) exporting (extern_name x)) o
      (any_if (BroughtOf owns_once_inherited (λ r. Unit {0})) b (written (mk q) s.top r) (written_has owns_once_inherited (λ r. Unit {0}) s.top (all zero s.top refl) names_by_place q (λ o. tt) r)))
      (any_mapped (λ b. AreMade q (names_in b.resources)) (λ p. AreMade q (new_names p)) (enters exporting (extern_name x)) (enters_once q exporting (extern_name x)) o
      (any_if (λ b. AreMade q (names_in b.resources)) b (written (mk q) s.top r) (written_once q s.top (all zero s.top refl) r))) e

  import_made : (q : Place) (s : Tree_stack) (i : _) → Everywhere OwnsOnce s → OfAny (λ p. AreMade q (new_names p)) (step fs (mk q) s (import_item i))
  import_made q s i all =
      any_mapped (λ b. AreMade q (names_in b.resources)) (λ p. AreMade q (new_names p)) (enters importing (extern_name i.name)) (enters_once q importing (extern_name i.name)) (new_there importing (extern_name i.name) s.top (written (mk q) s.top i.ty))
      (any_if (λ b. AreMade q (names_in b.resources)) (is_new importing (extern_name i.name).name s.top) (written (mk q) s.top i.ty) (written_once q s.top (all zero s.top refl) i.ty))

  item_grew : (q : Place) (s u : Tree_stack) (f : _) → Everywhere OwnsOnce s → OfAny (λ p. AreMade q (new_names p)) (step fs (mk q) s f) → applied s (step fs (mk q) s f) ≡ Some u → Grew q s u
  item_grew q s u f all m e = applied_grew q s u (step fs (mk q) s f) all (items_bring_given owns_once_inherited (λ r. Unit {0}) names_by_place q (λ o. tt) s all owns_once_given fs f) m e

  -- before the first declaration
  start_before : (k : Kind) (s : Tree_stack) (q : Place) (r : Name) → IsOwn (inside k s).top r → MadeBefore q 0 r
  start_before k s q r o = absurd (false≢true o)

  mutual
    type_grew : (q : Place) (s u : Tree_stack) (t : Type_form) → Everywhere OwnsOnce s → read_type fs mk q s t ≡ Some u → Grew q s u
    type_grew q s u (component_type ds) all e =
        let v = then-some (ended declares_component (mk q)) (read_decls fs mk q 0 (inside declares_component s) ds) u e in
        end_grew declares_component q s v.0 u (decls_grew q 0 (inside declares_component s) v.0 ds (inside_has declares_component s OwnsOnce all) (start_before declares_component s q) tt v.1) v.2
    type_grew q s u (instance_type ds) all e =
        let v = then-some (ended declares_instance (mk q)) (read_decls fs mk q 0 (inside declares_instance s) ds) u e in
        end_grew declares_instance q s v.0 u (decls_grew q 0 (inside declares_instance s) v.0 ds (inside_has declares_instance s OwnsOnce all) (start_before declares_instance s q) tt v.1) v.2
    type_grew q s u (defined_type d) all e = item_grew q s u (type_item (defined_type d)) all (types_once q s.top (all zero s.top refl) (defined_type d)) e
    type_grew q s u (func_type f) all e = item_grew q s u (type_item (func_type f)) all (types_once q s.top (all zero s.top refl) (func_type f)) e
    type_grew q s u (resource_type rep dtor) all e = item_grew q s u (type_item (resource_type rep dtor)) all (types_once q s.top (all zero s.top refl) (resource_type rep dtor)) e

    decl_grew : (q : Place) (s u : Tree_stack) (d : Decl) → Everywhere OwnsOnce s → read_decl fs mk q s d ≡ Some u → Grew q s u
    decl_grew q s u (core_type_decl t) all e = item_grew q s u (core_type_item t) all (core_types_once q fs s t) e
    decl_grew q s u (type_decl t) all e = type_grew q s u t all e
    decl_grew q s u (alias_decl a) all e = applied_grew q s u (alias_step s a) all (aliases_bring owns_once_inherited (λ r. Unit {0}) s all a) (aliases_once q s a) e
    decl_grew q s u (export_decl n r) all e = export_grew q s u n r all e
    decl_grew q s u (import_decl i) all e = item_grew q s u (import_item i) all (import_made q s i all) e

    decls_grew : (p : Place) (n : ℕ) (s u : Tree_stack) (ds : Decls) → Everywhere OwnsOnce s → ((r : Name) → IsOwn s.top r → MadeBefore p n r) → IsOnce (own_resources s.top) → read_decls fs mk p n s ds ≡ Some u → AllGrew p s u
    decls_grew p n s u no_decls all b a e =
        subst (AllGrew p s) (some-inj e)
        (record {
          own = λ r o.
              let w = b r o in
              (w.0, w.2);
          once = a;
          outer = λ j d f. (d, f, refl, refl);
          has = all;
        })
    decls_grew p n s u (declare d ds) all b a e =
        let t = then-some (λ t. read_decls fs mk p (suc n) t ds) (read_decl fs mk (deeper p n) s d) u e in
        let g = decl_grew (deeper p n) s t.0 d all t.1 in
        let h = decls_grew p (suc n) t.0 u ds g.has (λ r o. made_before p n s r b (g.own r o)) (g.once a (λ r o m. not_before p n s r b o m)) t.2 in
        record { own = h.own; once = h.once; outer = λ j d f. same_then s t.0 (suc j) d (g.outer j) (h.outer j d f); has = h.has }

-- ## The type

pub owned_made : (fs : WasmFeatures) (p : Place) (s u : Tree_stack) (ds : Decls) → Everywhere OwnsOnce s → read_type fs (tree_maker names_by_place) p s (instance_type ds) ≡ Some u →
    (t : Type_tree) × (u.top.space in_types ≡ s.top.space in_types ++ type_entry t ∷ []) × IsOnce (owned t) × ((r : Name) → member r (owned t) ≡ true → (j : ℕ) × IsMadeAt (deeper p j) r)
owned_made fs p s u ds all e =
    let v = then-some (ended declares_instance (mk fs p)) (read_decls fs (mk fs) p 0 (inside declares_instance s) ds) u e in
    let g = decls_grew fs p 0 (inside declares_instance s) v.0 ds (inside_has declares_instance s OwnsOnce all) (start_before fs declares_instance s p) tt v.1 in
    let t = then-some (λ t. option_map (λ n. apply (added (mk fs p) n) t) (declared_made declares_instance v.0.top)) (around v.0) u v.2 in
    let top = g.outer zero t.0.top (stood v.0 t.0 t.1 zero t.0.top refl) in
    let same : t.0.top.space in_types ≡ s.top.space in_types = top.2 ∙ ap (λ (c : Tree_context). c.space in_types) (sym (some-inj top.1)) in
    let made : Type_tree = node_tree (base p) (instance_made v.0.top) in (
      made,
      ap (λ (x : Tree_stack). x.top.space in_types) (sym (some-inj t.2)) ∙ ap (λ (xs : List Type_tree). xs ++ type_entry made ∷ []) same,
      once_right (names_in v.0.top.imported) (names_in v.0.top.defined) g.once,
      λ r o. g.own r (defined_own v.0.top r o),
    )

-- behind it no type owns a resource twice either
pub reading_once : (fs : WasmFeatures) (p : Place) (s u : Tree_stack) (t : Type_form) → Everywhere OwnsOnce s → read_type fs (tree_maker names_by_place) p s t ≡ Some u → Everywhere OwnsOnce u
reading_once fs p s u t all e =
    let g = type_grew fs p s u t all e in
    g.has

-- and so behind an item
pub growing_once : (fs : WasmFeatures) (n : Names) (p : Place) (s u : Tree_stack) (f : Form) → Everywhere OwnsOnce s → grow fs (tree_maker n p) s f ≡ Some u → Everywhere OwnsOnce u
growing_once fs n p s u f all e =
    let w = map-some (λ q. apply q s) (step fs (tree_maker n p) s f) u e in
    let b = of_some (AllBring OwnsOnce (λ r. Unit {0})) (step fs (tree_maker n p) s f) w.0 (items_bring_given owns_once_inherited (λ r. Unit {0}) n p (λ o. tt) s all owns_once_given fs f) w.1 in
    subst (Everywhere OwnsOnce) (some-inj w.2) (applied_has OwnsOnce (λ r. Unit {0}) w.0 s all b)
