-- What arguments give in the place of the types that imports create.
use Rattle.std.specs.Prelude.{List, [], ◌∷◌, ◌++◌, bytes_eq, option_to_list}
use Rattle.std.specs.Map.{lookup}
use Rattle.std.specs.Option.{option_map, option_map_or}
use Rattle.wcv_core.specs.Names.{Name}
use Rattle.wcv_types.specs.Identity.{Identity, identity_at}
use Rattle.wcv_types.specs.Tree.{Text, export, instance, type_entity, node, Parts, none, part, head, created, exports}
use Rattle.wcv_types.specs.Unfold.{Type_tree}
use Rattle.wcv_matching.specs.Matching.{named}

-- what an argument gives for the types that an import creates, itself and, of an instance, export by export
abbrev mutual
  pub given_by : Type_tree → Type_tree → List (Identity × Type_tree)
  given_by a (node type_entity ps) = option_to_list (option_map (λ i. (i, created a)) (identity_at (head (created (node type_entity ps)))))
  given_by a (node (instance i own) ps) = given_in (named (exports a)) ps
  given_by a t = []

  pub given_in : List (Text × Type_tree) → Parts Name Name → List (Identity × Type_tree)
  given_in es none = []
  given_in es (part (export n) t ps) = option_map_or (λ a. given_by a t) (lookup (bytes_eq n.name) es) [] ++ given_in es ps
  given_in es (part k t ps) = given_in es ps

-- of all imports, in order
abbrev pub given_for : List (Text × Type_tree) → List (Text × Type_tree) → List (Identity × Type_tree)
given_for args [] = []
given_for args (i ∷ is) = option_map_or (λ a. given_by a i.1) (lookup (bytes_eq i.0) args) [] ++ given_for args is
