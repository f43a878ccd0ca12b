-- The first path to a resource, depth first, entries in order.
use Rattle.std.specs.Prelude.{ℕ, suc, List, [], ◌∷◌, cond, Option, Some, None}
use Rattle.std.specs.Option.{option_map}
use Rattle.wcv_core.specs.Names.{Name, member}
use Rattle.wcv_types.specs.Tree.{Extern_name, instance, type_entity, export, Tree, node, Parts, none, part, head, first_part, rest_parts}
use Rattle.wcv_types.specs.Resources.{refers}

-- the first that is there
abbrev pub or_else : {X : Type 0} → Option X → Option X → Option X
or_else None o = o
or_else (Some x) o = Some x

-- within what an entry holds, and among exports of which the first has position k
abbrev mutual
  pub path_at : Name → Tree Name Name → Option (List ℕ)
  path_at r (node type_entity ps) = cond (refers r (head (first_part (rest_parts ps)))) (Some []) None
  path_at r (node (instance i own) ps) = cond (member r own) None (path_in r 0 ps)
  path_at r (node h ps) = None

  pub path_in : Name → ℕ → Parts Name Name → Option (List ℕ)
  path_in r k none = None
  path_in r k (part (export n) t ps) = or_else (option_map (λ p. k ∷ p) (path_at r t)) (path_in r (suc k) ps)
  path_in r k (part _ t ps) = path_in r k ps

-- among entries of which the first has position k
abbrev pub path_from : Name → ℕ → List (Extern_name × Tree Name Name) → Option (List ℕ)
path_from r k [] = None
path_from r k (e ∷ es) = or_else (option_map (λ p. k ∷ p) (path_at r e.1)) (path_from r (suc k) es)

-- the first path to the resource among the entries
abbrev pub first_path : Name → List (Extern_name × Tree Name Name) → Option (List ℕ)
first_path r es = path_from r 0 es
