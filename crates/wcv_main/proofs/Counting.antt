-- The lengths of the index spaces of a state are those of the context that it stands for.
use Rattle.std.proofs.Common.{◌≡◌, [], ◌∷◌, length, map}
use Rattle.wcv_types.specs.Arena.{Arena}
use Rattle.wcv_types.specs.Unfold.{trees}
use Rattle.wcv_types.proofs.Each.{length-mapped}
use Rattle.wcv_lower.specs.Context.{Space, in_types, in_funcs, in_values, in_instances, in_components, Core_space, core_types, core_funcs, core_tags, core_modules, core_instances, core_memories, core_tables, core_globals, lengths}
use Rattle.wcv_spaces.specs.Contents.{Contents, ids, core_ids, id_tree, core_tree, context_of}
use Rattle.wcv_main.specs.Report.{space_lengths}

pub counted : (a : Arena) (s : Contents) → lengths (context_of a s) ≡ space_lengths s.spaces
counted a s =
    let own : (k : Space) → length (map (id_tree (trees a.nodes) k) (ids k s.spaces)) ≡ length (ids k s.spaces) = λ k. length-mapped (id_tree (trees a.nodes) k) (ids k s.spaces) in
    let core : (k : Core_space) → length (map (core_tree (trees a.nodes) k) (core_ids k s.spaces)) ≡ length (core_ids k s.spaces) = λ k. length-mapped (core_tree (trees a.nodes) k) (core_ids k s.spaces) in
    λ j. core core_types j ∷ core core_funcs j ∷ core core_tags j ∷ core core_modules j ∷ core core_instances j ∷ core core_memories j ∷ core core_tables j ∷ core core_globals j
    ∷ own in_types j ∷ own in_funcs j ∷ own in_values j ∷ own in_instances j ∷ own in_components j ∷ []
