-- The end of a declared type or a component: its node joins a space of the state around it.
use Rattle.std.proofs.Common.{◌≡◌, ℕ, ◌≤◌, ◌<◌, ◌-◌, List, [], ◌∷◌, ◌++◌, length, map, refl, sym, ◌∙◌, ap, subst, arith, Some, None, All, slice_set}
use Rattle.std.specs.Prelude.{Option, reverse}
use Rattle.std.specs.Option.{option_map, option_and_then}
use Rattle.std.proofs.lemmas.List.{map-append, reverse-append}
use Rattle.std.proofs.lemmas.List.Elements.{All-nil, All-cons, All-head, All-tail, All-append, All-map}
use Rattle.wcv_core.specs.Names.{Name, Place, number}
use Rattle.wcv_types.specs.Arena.{Arena}
use Rattle.wcv_types.specs.ComponentTrees.{resource_path, component_tree, ResourceStands}
use Rattle.wcv_types.specs.Entities.{entry_trees, EntryStands, entity_slot}
use Rattle.wcv_types.specs.Paths.{PathLeadsTo}
use Rattle.wcv_types.specs.Standing.{Stands, GaveResource, Fits}
use Rattle.wcv_types.specs.Tree.{Text, Extern_name, Role, import, export, component, node, firsts, imports_in, exports_in}
use Rattle.wcv_types.specs.Measure as measure
use Rattle.wcv_types.specs.Unfold.{Type_tree, capped, entry_slots, slot_refs, slot_parts, parts_in, tree_of, trees}
use Rattle.wcv_types.specs.declared.arena.Node.{Node}
use Rattle.wcv_types.specs.declared.arena.Node.TheVariants as n
use Rattle.wcv_types.specs.declared.component_type.ComponentType.{ComponentType}
use Rattle.wcv_types.specs.declared.ids.ResourceId.{ResourceId}
use Rattle.wcv_types.specs.declared.item_map.ComponentItem.{ComponentItem}
use Rattle.wcv_types.proofs.ComponentsRebuilt.{component_fits}
use Rattle.wcv_types.proofs.EntryParts.{both_parts, component_imports, component_exports}
use Rattle.wcv_types.proofs.Grown.{length-trees}
use Rattle.wcv_types.proofs.Knowing.{parts_in-append}
use Rattle.wcv_lower.specs.Checks.{IsFree}
use Rattle.wcv_lower.specs.Context.{Kind, concrete, declares_instance, declares_component, Space, in_types, in_components, push}
use Rattle.wcv_lower.specs.Declared as rules
use Rattle.wcv_lower.specs.Declared.{closed_as, ended}
use Rattle.wcv_lower.specs.Ending.{type_at_end, component_made, declared_made, declared_end_checks}
use Rattle.wcv_lower.specs.Given.{GivenNames, names_of}
use Rattle.wcv_lower.specs.Names.{Names, introduced}
use Rattle.wcv_lower.specs.Owned.{IsCalm}
use Rattle.wcv_lower.specs.Readers.{New_node}
use Rattle.wcv_lower.specs.Step.{Step, apply}
use Rattle.wcv_lower.specs.Trees.{Tree_context, Tree_stack, tree_reader, tree_maker, node_tree}
use Rattle.wcv_lower.proofs.Calm.{calm_later}
use Rattle.wcv_lower.proofs.CalmEnds.{calm_ended}
use Rattle.wcv_spaces.specs.Contents.{Contents, context_of, stack_of}
use Rattle.wcv_spaces.specs.Promises.{numbers_of, Finished}
use Rattle.wcv_decls.specs.Declaring.{innermost, around, stack_in, top_in, AreReady, Ends}
use Rattle.wcv_decls.specs.Items.{entry_in, Stored}
use Rattle.wcv_decls.specs.Stack.{IsOpen, stay, ChangesLast, contexts_around}
use Rattle.wcv_decls.proofs.InnermostStates.{stack_after, stays, last_changed, body_stays}
use Rattle.wcv_decls.proofs.Looking.{refs_of}
use Rattle.wcv_decls.proofs.Naming.{node_names, node_given_there, node_name, joins_under, node_reached}
use Rattle.wcv_decls.proofs.Plain.{SameSides, same_body}
use Rattle.wcv_decls.proofs.ReadingOn.{grown_numbers}

-- ## The node of a component type

abbrev Listed : Type 0
Listed = List (Text × ComponentItem)

pub entries_are : (a : Arena) (role : Extern_name → Role) (es : Listed) → All (EntryStands a) es → All (Stands a) (parts_in (entry_slots role es))
entries_are a role [] h = All-nil (Stands a)
entries_are a role (e ∷ es) h =
    All-append (Stands a) (slot_refs (entity_slot e.1.ty)) (parts_in (entry_slots role es)) (refs_of a (entity_slot e.1.ty) (All-head (EntryStands a) e es h)) (entries_are a role es (All-tail (EntryStands a) e es h))

given_firsts : (a : Arena) (rs : List (ResourceId × List ℕ)) → All (λ (p : ResourceId × List ℕ). ResourceStands a p.0) rs → All (GaveResource a) (firsts (map resource_path rs))
given_firsts a [] h = All-nil (GaveResource a)
given_firsts a (r ∷ rs) h =
    All-cons (GaveResource a) (number r.0.index) (firsts (map resource_path rs)) (All-head (λ (p : ResourceId × List ℕ). ResourceStands a p.0) r rs h) (given_firsts a rs (All-tail (λ (p : ResourceId × List ℕ). ResourceStands a p.0) r rs h))

module _ (a : Arena) (s : Contents) (ty : ComponentType) (f : Finished a s ty) where
  abbrev ts : List Type_tree
  ts = trees a.nodes

  pub component_tree_same : component_tree ts (number (length a.nodes)) ty ≡ tree_of ts (n.Component ty)
  component_tree_same =
      (λ j. node (component (number (sym (length-trees a.nodes) j)) (map resource_path ty.imported_resources) (map resource_path ty.defined_resources)) (sym (both_parts ts ty.imports ty.exports) j))

  led_by : (es es' : List (Extern_name × Type_tree)) (rs : List (ResourceId × List ℕ)) → es' ≡ es → All (λ (p : ResourceId × List ℕ). PathLeadsTo p.1 (number p.0.index) es) rs → All (λ (p : Name × List ℕ). PathLeadsTo p.1 p.0 es') (map resource_path rs)
  led_by es es' rs e h =
      subst (λ (xs : List (Extern_name × Type_tree)). All (λ (p : Name × List ℕ). PathLeadsTo p.1 p.0 xs) (map resource_path rs)) (sym e) (All-map (λ (p : Name × List ℕ). PathLeadsTo p.1 p.0 es) resource_path rs h)

  pub finished_fits : ty.info.size ≤ 4294967295 → ty.info.depth ≤ 4294967295 → Fits a (n.Component ty)
  finished_fits small low =
      let size : ty.info.size ≡ capped ty.info.size = omega (arith, small) in
      let depth : ty.info.depth ≡ capped ty.info.depth = omega (arith, low) in
      let ins = entry_slots import ty.imports in
      let outs = entry_slots export ty.exports in
      component_fits a ty
      (subst (All (Stands a)) (sym (parts_in-append ins outs)) (All-append (Stands a) (parts_in ins) (parts_in outs) (entries_are a import ty.imports f.stands.imports) (entries_are a export ty.exports f.stands.exports)))
      (All-append (GaveResource a) (firsts (map resource_path ty.imported_resources)) (firsts (map resource_path ty.defined_resources)) (given_firsts a ty.imported_resources f.stands.imported) (given_firsts a ty.defined_resources f.stands.defined)) (
        led_by (entry_trees ts ty.imports) (imports_in (slot_parts ts (entry_slots import ty.imports ++ entry_slots export ty.exports))) ty.imported_resources (component_imports ts ty.imports ty.exports) f.lead.imported,
        led_by (entry_trees ts ty.exports) (exports_in (slot_parts ts (entry_slots import ty.imports ++ entry_slots export ty.exports))) ty.defined_resources (component_exports ts ty.imports ty.exports) f.lead.defined,
      )
      f.apart
      (record {
        size = size ∙ ap capped (f.size (number (length a.nodes)) ∙ ap measure.size component_tree_same);
        depth = depth ∙ ap capped (f.depth (number (length a.nodes)) ∙ ap measure.depth component_tree_same);
      })

  -- the node that the rules make
  pub record Node_at_end : Type 0 where
    pub node : New_node tree_reader
    pub made : component_made (context_of a s) ≡ Some node
    pub tree : (i : Name) → node_tree i node ≡ component_tree ts i ty

  pub node_at_end : Node_at_end
  node_at_end = go (component_made (context_of a s)) refl
    where
      go : (o : Option (New_node tree_reader)) → component_made (context_of a s) ≡ o → Node_at_end
      go None e =
          let none : type_at_end (node_tree (number 0)) (context_of a s) ≡ None = ap (option_map (node_tree (number 0))) e in
          let some : type_at_end (node_tree (number 0)) (context_of a s) ≡ Some (component_tree ts (number 0) ty) = f.tree (number 0) in
          absurd (cc)
      go (Some x) e = record {
        node = x;
        made = e;
        tree = λ i. let same : Some (node_tree i x) ≡ Some (component_tree ts i ty) = sym (ap (option_map (node_tree i)) e) ∙ f.tree i in cc;
      }

-- ## It joins

pub nearest : (a : Arena) (outer : List Contents) (s : Contents) → contexts_around a (outer ++ s ∷ []) ≡ context_of a s ∷ contexts_around a outer
nearest a outer s = ap reverse (map-append (context_of a) outer (s ∷ [])) ∙ reverse-append (map (context_of a) outer) (context_of a s ∷ [])

-- the space that it joins
abbrev pub closed_space : Kind → Space
closed_space concrete = in_components
closed_space declares_instance = in_types
closed_space declares_component = in_types

closed_as-joins : (k : Kind) (names : Names) (p : Place) (n : New_node tree_reader) → closed_as k (tree_maker names p) n ≡ joins_under (closed_space k) (names.identity (introduced p)) n
closed_as-joins concrete names p n = refl
closed_as-joins declares_instance names p n = refl
closed_as-joins declares_component names p n = refl

module _ (k : Kind) (a b : Arena) (ss : List Contents) (h : AreReady a ss) (some : 0 < length (around ss)) (each : All (IsOpen a) (around ss)) (x : Node) (s s' : Contents) (i : s ≡ innermost (around ss)) (w : Stored (closed_space k) a b s s' x)
    (node : New_node tree_reader) (made : declared_made k (top_in a ss) ≡ Some node) (same : tree_of (trees a.nodes) x ≡ node_tree (number (length a.nodes)) node) (free : IsFree (declared_end_checks k (top_in a ss)))
    (last : ℕ) (e : last ≡ length (around ss) - 1) where
  abbrev pub after : List Contents
  after = slice_set (around ss) last s'

  abbrev cs : List Tree_context
  cs = contexts_around a (around (around ss))

  abbrev change : ChangesLast stay (around ss) after
  change = last_changed (around ss) last s s' some e i

  abbrev names_at : Place → GivenNames
  names_at p = node_names a b p w.nodes

  grown : context_of b s' ≡ push (closed_space k) (entry_in (closed_space k) (node_tree (number (length a.nodes)) node)) (context_of a s)
  grown = w.grown ∙ ap (λ (t : Type_tree). push (closed_space k) (entry_in (closed_space k) t) (context_of a s)) same

  stack_around : rules.around (stack_in a ss) ≡ Some (stack_of a s cs)
  stack_around = ap (λ (os : List Tree_context). rules.stack_of os a.core) (ap (contexts_around a) change.was ∙ nearest a (around (around ss)) s)

  ended_at : (p : Place) → ended k (tree_maker (names_of (names_at p)) p) (stack_in a ss) ≡ Some (stack_of b s' cs)
  ended_at p =
      let mk = tree_maker (names_of (names_at p)) p in
      ap (option_and_then (λ (t : Tree_stack). option_map (λ (m : New_node tree_reader). apply (closed_as k mk m) t) (declared_made k (top_in a ss)))) stack_around ∙
      ap (option_map (λ (m : New_node tree_reader). apply (closed_as k mk m) (stack_of a s cs))) made ∙
      ap (λ (q : Step tree_reader). Some (apply q (stack_of a s cs))) (closed_as-joins k (names_of (names_at p)) p node) ∙ ap Some (node_reached (closed_space k) a b s s' node w.nodes w.core grown cs p)

  calm_after : IsCalm (numbers_of b) (stack_of b s' cs)
  calm_after =
      calm_later (numbers_of a) (numbers_of b) (stack_of b s' cs) (grown_numbers a b w.keeps.arena)
      (calm_ended (numbers_of a) k (names_of (names_at [])) [] (stack_in a ss) (stack_of b s' cs) h.calm (ended_at []))

  reached : stack_in b after ≡ stack_of b s' cs
  reached = stack_after a b (around ss) after change each w.keeps.arena

  pub type_ends : Ends k a b ss after
  type_ends = record {
    names = names_at;
    given = λ p. node_given_there a b p w.nodes;
    named = λ p. node_name a b p w.nodes;
    ended = λ p. ended_at p ∙ ap Some (sym reached);
    free = free;
    ready = stays a b (around ss) after change each w.keeps w.live calm_after;
    declares = body_stays a b (around ss) after change each w.keeps.arena
        (same_body (context_of a s) (context_of b s') (subst (λ (c : Tree_context). SameSides (context_of a s) c) (sym grown) (record { kind = refl; side = λ j. refl; defined = refl })));
  }
