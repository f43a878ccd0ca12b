-- What the calls by which an entity joins a side promise, over what they did.
use Rattle.std.proofs.Common.{◌≡◌, ℕ, ◌++◌, subst, Bool, false, ⊎_elim}
use Rattle.wcv_core.specs.Refusal.{error_kind}
use Rattle.wcv_core.specs.declared.error.Error.{Error}
use Rattle.wcv_core.specs.declared.error.ErrorKind.{ErrorKind}
use Rattle.wcv_syntax.specs.declared.name.ComponentExternName.{ComponentExternName}
use Rattle.wcv_types.specs.Arena.{Arena}
use Rattle.wcv_types.specs.Entities.{entity_tree}
use Rattle.wcv_types.specs.Sets.{identities}
use Rattle.wcv_types.specs.Unfold.{Type_tree, trees}
use Rattle.wcv_lower.specs.Checks.{Checks, Cause, IsFree, full_side, bad_entity}
use Rattle.wcv_lower.specs.Context.{Side, counts}
use Rattle.wcv_lower.specs.Entries.{extern_name, unnamed, lent, join_checks}
use Rattle.wcv_lower.specs.EntryNames.{name_checks}
use Rattle.wcv_lower.specs.Readers.{weight}
use Rattle.wcv_lower.specs.Trees.{tree_reader}
use Rattle.wcv_lower.proofs.Causes.{cause_left, cause_right, cause_either, free_both, free_left, free_right}
use Rattle.wcv_spaces.specs.Bringing.{MayJoin, HasJoined}
use Rattle.wcv_spaces.specs.Contents.{Contents, kind_of, sides, names, context_of}
use Rattle.wcv_spaces.specs.Entering.{entry_checks}
use Rattle.wcv_spaces.specs.Promises.{MemoryOrCausedBy}
use Rattle.wcv_spaces.specs.declared.new_entity.NewEntity.{NewEntity}
use Rattle.wcv_spaces.proofs.Calls.{caused_more}
use Rattle.wcv_spaces.proofs.JoinedSides.{Joined_state, joined_stack, entry_checks_same}

module _ (limited : Bool) (d : Side) (a : Arena) (s z : Contents) (n : ComponentExternName) (x : NewEntity) (ez : z ≡ s) where
  abbrev tree : Type_tree
  tree = entity_tree (trees a.nodes) x.ty

  abbrev room : Checks
  room = full_side limited d (counts (context_of a z))

  abbrev names_of_entry : Checks
  names_of_entry = name_checks z.features ((context_of a z).side d) (extern_name n) tree

  abbrev entity_alone : Checks
  entity_alone = bad_entity (counts (context_of a z)) (weight tree_reader tree)

  abbrev handed : Checks
  handed = lent tree_reader d tree

  abbrev entering : Checks
  entering = room ++ (names_of_entry ++ (entity_alone ++ handed))

  abbrev not_named : Checks
  not_named = unnamed tree_reader (kind_of z.kind) (λ d. identities (names z d)) d tree

  abbrev all : Checks
  all = join_checks limited z.features d (extern_name n) (context_of a z) tree

  abbrev behind_name : Checks
  behind_name = entity_alone ++ (not_named ++ handed)

  all_free : IsFree entering → IsFree not_named → IsFree all
  all_free f u =
      let r = free_right room (names_of_entry ++ (entity_alone ++ handed)) f in
      let e = free_right names_of_entry (entity_alone ++ handed) r in
      free_both room (names_of_entry ++ behind_name) (free_left room (names_of_entry ++ (entity_alone ++ handed)) f)
      (free_both names_of_entry behind_name (free_left names_of_entry (entity_alone ++ handed) r)
      (free_both entity_alone (not_named ++ handed) (free_left entity_alone handed e) (free_both not_named handed u (free_right entity_alone handed e))))

  of_entering : (k : ErrorKind) → Cause entering k → Cause all k
  of_entering k q =
      ⊎_elim (λ c. cause_left room (names_of_entry ++ behind_name) k c)
      (λ c. cause_right room (names_of_entry ++ behind_name) k
      (⊎_elim (λ c. cause_left names_of_entry behind_name k c)
      (λ c. cause_right names_of_entry behind_name k
      (⊎_elim (λ c. cause_left entity_alone (not_named ++ handed) k c) (λ c. cause_right entity_alone (not_named ++ handed) k (cause_right not_named handed k c)) (cause_either entity_alone handed k c)))
      (cause_either names_of_entry (entity_alone ++ handed) k c)))
      (cause_either room (names_of_entry ++ (entity_alone ++ handed)) k q)

  of_unnamed : (k : ErrorKind) → Cause not_named k → Cause all k
  of_unnamed k q = cause_right room (names_of_entry ++ behind_name) k (cause_right names_of_entry behind_name k (cause_right entity_alone (not_named ++ handed) k (cause_left not_named handed k q)))

  pub has_joined : (s' : Contents) → MayJoin a x → Joined_state a d z s' n x → IsFree (unnamed tree_reader (kind_of z.kind) (λ d. identities (names z d)) d (entity_tree (trees a.nodes) x.ty)) →
      IsFree (entry_checks limited z.features d (trees a.nodes) z.spaces (sides z d) z.info (extern_name n) (entity_tree (trees a.nodes) x.ty)) → s'.spent ≡ false → HasJoined limited d a s s' n x
  has_joined s' m j named free live =
      subst (λ (y : Contents). HasJoined limited d a y s' n x) ez (record {
        entered = λ outer. joined_stack a outer d z s' n x m j;
        free = all_free (subst IsFree (entry_checks_same a limited d z z.features (extern_name n) tree) free) named;
        live = live;
      })

  either_caused : {M : Type 0} (cs : Checks) (offset : ℕ) (e : Error M) → (Cause cs (error_kind e) → Cause all (error_kind e)) → MemoryOrCausedBy cs offset e → MemoryOrCausedBy (join_checks limited s.features d (extern_name n) (context_of a s) (entity_tree (trees a.nodes) x.ty)) offset e
  either_caused cs offset e h t =
      subst (λ (y : Contents). MemoryOrCausedBy (join_checks limited y.features d (extern_name n) (context_of a y) tree) offset e) ez
      (caused_more cs all offset e h t)

  pub join_caused : {M : Type 0} (offset : ℕ) (e : Error M) → MemoryOrCausedBy (entry_checks limited z.features d (trees a.nodes) z.spaces (sides z d) z.info (extern_name n) (entity_tree (trees a.nodes) x.ty)) offset e →
      MemoryOrCausedBy (join_checks limited s.features d (extern_name n) (context_of a s) (entity_tree (trees a.nodes) x.ty)) offset e
  join_caused offset e t =
      either_caused entering offset e (of_entering (error_kind e)) (subst (λ (cs : Checks). MemoryOrCausedBy cs offset e) (entry_checks_same a limited d z z.features (extern_name n) tree) t)

  pub join_unnamed : {M : Type 0} (offset : ℕ) (e : Error M) → MemoryOrCausedBy (unnamed tree_reader (kind_of z.kind) (λ d. identities (names z d)) d (entity_tree (trees a.nodes) x.ty)) offset e →
      MemoryOrCausedBy (join_checks limited s.features d (extern_name n) (context_of a s) (entity_tree (trees a.nodes) x.ty)) offset e
  join_unnamed offset e t = either_caused not_named offset e (of_unnamed (error_kind e)) t
