-- A node that joined the arena and a space of a state.
use Rattle.std.proofs.Common.{◌≡◌, [], ◌∷◌, length, sym, ◌∙◌, ap, refl, subst, arith, length-append, true, false}
use Rattle.wcv_types.specs.Arena.{Arena}
use Rattle.wcv_types.specs.Entities.{any_part}
use Rattle.wcv_types.specs.Standing.{Stands, Extends, with_node}
use Rattle.wcv_types.specs.Unfold.{tree_at, tree_of, trees}
use Rattle.wcv_types.specs.declared.arena.Node.{Node}
use Rattle.wcv_types.specs.declared.ids.ComponentAnyTypeId.{ComponentAnyTypeId}
use Rattle.wcv_types.proofs.Grown.{extends_refl, extends_push}
use Rattle.wcv_lower.specs.Context.{Space, in_types, push}
use Rattle.wcv_lower.specs.Trees.{Tree_context, type_entry}
use Rattle.wcv_spaces.specs.Contents.{Contents, Id, with_id, id_tree, context_of, IdStands, StateStands}
use Rattle.wcv_spaces.specs.Promises.{Keeps}
use Rattle.wcv_spaces.proofs.Keeping.{state_stands, same_context, keeps_grown, keeps_marked, keeps_trans, keeps_with_id, push_marked, with_id_context}
use Rattle.wcv_decls.specs.Items.{entry_in, Stored}

-- nothing changed
pub unchanged : (a : Arena) (s : Contents) → StateStands a s → Keeps a a s s
unchanged a s h = keeps_grown a a s (extends_refl a) h

module _ (a b : Arena) (s : Contents) (x : Node) (eb : b ≡ with_node a x) (h : StateStands a s) where
  grew : Extends a b
  grew = subst (Extends a) (sym eb) (extends_push a x)

  -- the arena alone grew
  pub node_keeps : Keeps a b s s
  node_keeps = keeps_grown a b s grew h

  node_stands : StateStands b s
  node_stands = state_stands a b grew s h

  -- so where the state is spent
  pub spent_keeps : (s' : Contents) → s' ≡ record s { spent = true } → Keeps a b s s'
  spent_keeps s' e = subst (λ (z : Contents). Keeps a b s z) (sym e) (keeps_trans a b b s s (record s { spent = true }) node_keeps (keeps_marked b s s true refl node_stands))

  -- it joined a space by its id, not as a value
  pub stored_in : (k : Space) (s' : Contents) (id : Id k) → s.spent ≡ false → IdStands b k id → ((c : Tree_context) → push_marked (trees b.nodes) k id c ≡ push k (id_tree (trees b.nodes) k id) c) → id_tree (trees b.nodes) k id ≡ entry_in k (tree_of (trees a.nodes) x) → s' ≡ with_id k id s → Stored k a b s s' x
  stored_in k s' id live stands unmarked tree es = subst (λ (z : Contents). Stored k a b s z x) (sym es) (record {
    grown = with_id_context b k id s ∙ unmarked (context_of b s) ∙ (λ j. push k (tree j) (same_context a b grew s h j));
    nodes = ap (λ (y : Arena). length y.nodes) eb ∙ length-append a.nodes (x ∷ []) ∙ omega arith;
    core = ap (λ (y : Arena). y.core) eb;
    live = live;
    keeps = keeps_trans a b b s s (with_id k id s) node_keeps (keeps_with_id b k id s node_stands stands);
  })

  -- the types
  pub stored : (s' : Contents) (id : ComponentAnyTypeId) → s.spent ≡ false → Stands b (any_part id) → tree_at b (any_part id) ≡ tree_of (trees a.nodes) x → s' ≡ with_id in_types id s → Stored in_types a b s s' x
  stored s' id live stands tree es = stored_in in_types s' id live (stands, stands) (λ c. refl) (λ j. type_entry (tree j)) es
