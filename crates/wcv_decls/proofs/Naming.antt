-- The names that a type item gives, and the end of a declared type or a component.
use Rattle.std.proofs.Common.{◌≡◌, suc, List, [], ◌∷◌, length, refl, sym, ◌∙◌, ap, arith, Bool, cond, Some, None}
use Rattle.std.specs.Prelude.{Option}
use Rattle.std.specs.Option.{option_map}
use Rattle.wcv_core.specs.Names.{Name, Place, number}
use Rattle.wcv_core.proofs.Places.{under-refl}
use Rattle.wcv_syntax.specs.Model.{Type_form, defined_type, func_type, component_type, instance_type, resource_type, type_item}
use Rattle.wcv_types.specs.Arena.{Arena}
use Rattle.wcv_lower.specs.Context.{Space, in_types, push}
use Rattle.wcv_lower.specs.Given.{GivenNames, names_of, named, or_by_place, GivesAt}
use Rattle.wcv_lower.specs.Growth.{grow}
use Rattle.wcv_lower.specs.Names.{introduced, Under}
use Rattle.wcv_lower.specs.Readers.{New_node, Maker}
use Rattle.wcv_lower.specs.Step.{appends, Step, apply}
use Rattle.wcv_lower.specs.Trees.{Tree_context, Tree_stack, tree_reader, tree_maker, node_tree}
use Rattle.wcv_lower.specs.Types.{type_made, added}
use Rattle.wcv_lower.proofs.Given.{same_origin-refl}
use Rattle.wcv_spaces.specs.Contents.{Contents, context_of, stack_of}
use Rattle.wcv_spaces.specs.Promises.{numbers_of}
use Rattle.wcv_decls.specs.Items.{entry_in, Added, Declares}

-- the identity of the node, at a place
module _ (a b : Arena) (p : Place) (k : length b.nodes ≡ suc (length a.nodes)) where
  abbrev pub node_names : GivenNames
  node_names = record { resources = []; identities = (introduced p, number (length a.nodes)) ∷ [] }

  pub node_given : GivesAt (Under p) (numbers_of a) (numbers_of b) node_names
  node_given = record { resources = tt; identities = ((omega arith, omega (arith, k)), under-refl p, tt, refl, refl, tt) }

  pub node_given_there : GivesAt (λ q. q ≡ p) (numbers_of a) (numbers_of b) node_names
  node_given_there = record { resources = tt; identities = ((omega arith, omega (arith, k)), refl, tt, refl, refl, tt) }

  pub node_name : named node_names.identities (introduced p) ≡ number (length a.nodes)
  node_name = ap (λ (x : Bool). or_by_place (introduced p) (cond x (Some (number (length a.nodes))) None)) (same_origin-refl (introduced p))

-- a node joins a space under a name
abbrev pub joins_under : Space → Name → New_node tree_reader → Step tree_reader
joins_under k i n = appends k (entry_in k (node_tree i n)) ∷ []

-- the state once the node joined a space
pub node_reached : (k : Space) (a b : Arena) (s s' : Contents) (n : New_node tree_reader) (m : length b.nodes ≡ suc (length a.nodes)) → b.core ≡ a.core → context_of b s' ≡ push k (entry_in k (node_tree (number (length a.nodes)) n)) (context_of a s) →
    (outer : List Tree_context) (p : Place) → apply (joins_under k (named (node_names a b p m).identities (introduced p)) n) (stack_of a s outer) ≡ stack_of b s' outer
node_reached k a b s s' n m core grown outer p =
    let e : push k (entry_in k (node_tree (named (node_names a b p m).identities (introduced p)) n)) (context_of a s) ≡ context_of b s' =
    ap (λ (i : Name). push k (entry_in k (node_tree i n)) (context_of a s)) (node_name a b p m) ∙ sym grown in
    λ j. record { top = e j; outer = outer; groups = sym core j }

-- the node of a type item joined the types
module _ (a b : Arena) (s s' : Contents) (t : Type_form) (w : Added a b s s' t) where
  abbrev given_at : Place → GivenNames
  given_at p = node_names a b p w.nodes

  abbrev maker_at : Place → Maker tree_reader
  maker_at p = tree_maker (names_of (given_at p)) p

  reached : (outer : List Tree_context) (p : Place) → apply (added (maker_at p) w.node) (stack_of a s outer) ≡ stack_of b s' outer
  reached outer p = node_reached in_types a b s s' w.node w.nodes w.core w.grown outer p

  grows : (u : Type_form) → type_made (context_of a s) u ≡ Some w.node → (outer : List Tree_context) (p : Place) → grow s.features (maker_at p) (stack_of a s outer) (type_item u) ≡ Some (stack_of b s' outer)
  grows u e outer p = go u e
    where
      grow_from : Option (New_node tree_reader) → Option Tree_stack
      grow_from o = option_map (λ (x : Step tree_reader). apply x (stack_of a s outer)) (option_map (added (maker_at p)) o)

      by_node : (o : Option (New_node tree_reader)) → o ≡ Some w.node → grow_from o ≡ Some (stack_of b s' outer)
      by_node o e = ap grow_from e ∙ ap Some (reached outer p)

      go : (u : Type_form) → type_made (context_of a s) u ≡ Some w.node → grow s.features (maker_at p) (stack_of a s outer) (type_item u) ≡ Some (stack_of b s' outer)
      go (defined_type d) e = by_node (type_made (context_of a s) (defined_type d)) e
      go (func_type f) e = by_node (type_made (context_of a s) (func_type f)) e
      go (component_type ds) e = absurd (cc)
      go (instance_type ds) e = absurd (cc)
      go (resource_type rep dtor) e = absurd (cc)

  pub node_declares : Declares a b s s' t
  node_declares = record {
    given_names = given_at;
    given = λ p. node_given a b p w.nodes;
    grown = grows t w.made;
    live = w.live;
    keeps = w.keeps;
  }
