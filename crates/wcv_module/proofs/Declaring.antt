-- Declarations, one after another.
use Rattle.std.proofs.Common.{arith, ◌≡◌, ℕ, List, ◌∷◌, refl, sym, ◌∙◌, ap, subst, Some, All, inl, inr}
use Rattle.wcv_core.proofs.Joining.{then_free, then_first, then_second}
use Rattle.wcv_core.specs.Checks.{Checks, IsFree, MemoryOrCausedBy}
use Rattle.wcv_core.specs.CoreForm.{Group, group_form}
use Rattle.wcv_core.specs.CoreGroups.{total}
use Rattle.wcv_core.specs.CoreWritten.{Core_entry, IsKnown}
use Rattle.wcv_core.specs.declared.core_types.RecGroup.{RecGroup}
use Rattle.wcv_core.specs.Refusal.{Told}
use Rattle.wcv_core.specs.declared.features.WasmFeatures.{WasmFeatures}
use Rattle.wcv_module.specs.Kept.{IsCounted}
use Rattle.wcv_module.proofs.Counting.{decl_counted}
use Rattle.wcv_module.proofs.Growing.{Grows, all_known_grows}
use Rattle.wcv_syntax.specs.Model.{Module_decl}
use Rattle.wcv_syntax.specs.ModuleTypes.{Module_type, module_entries, Made, and_then, on_made, with_group_of, group_joins, empty_module, decl_checks, declared, all_declared, module_checks}
use Rattle.wcv_syntax.specs.View.{module_decl_view}
use Rattle.wcv_syntax.specs.declared.core_section.ModuleTypeDeclaration.{ModuleTypeDeclaration}
use Rattle.wcv_syntax.specs.declared.core_section.ModuleTypeDeclaration.TheVariants as decl

-- ## One declaration

pub group_made : (outers : List (List Core_entry)) (gs hs : List Group) (m n : Module_type) (r : RecGroup) (d : ModuleTypeDeclaration) → d ≡ decl.Ty r → (hs, n) ≡ with_group_of gs m (group_form r) → declared outers gs m (module_decl_view d) ≡ Some (hs, n)
group_made outers gs hs m n r d is e =
    ap (λ (x : ModuleTypeDeclaration). declared outers gs m (module_decl_view x)) is ∙ ap (λ (s : Made). Some s) (sym e)

pub group_causes : (outers : List (List Core_entry)) (gs : List Group) (m : Module_type) (r : RecGroup) (d : ModuleTypeDeclaration) → d ≡ decl.Ty r → group_joins gs m (group_form r) ≡ decl_checks outers gs m (module_decl_view d)
group_causes outers gs m r d is = ap (λ (x : ModuleTypeDeclaration). decl_checks outers gs m (module_decl_view x)) (sym is)

-- ## The declarations so far, and the others

pub record IsSoFar (outers : List (List Core_entry)) (gs hs : List Group) (m n : Module_type) (ds rest : List Module_decl) : Type 0 where
  pub made : all_declared outers gs m ds ≡ all_declared outers hs n rest
  pub free : IsFree (module_checks outers hs n rest) → IsFree (module_checks outers gs m ds)
  pub caused : (offset : ℕ) (e : Told) → MemoryOrCausedBy (module_checks outers hs n rest) offset e → MemoryOrCausedBy (module_checks outers gs m ds) offset e
  pub known : All (IsKnown (total hs)) (module_entries n)
  pub around : All (All (IsKnown (total hs))) outers
  pub counted : IsCounted hs n

pub decl_caused : (outers : List (List Core_entry)) (gs hs : List Group) (m n : Module_type) (ds : List Module_decl) (d : Module_decl) (rest : List Module_decl) (offset : ℕ) (e : Told)
    → IsSoFar outers gs hs m n ds (d ∷ rest) → MemoryOrCausedBy (decl_checks outers hs n d) offset e → MemoryOrCausedBy (module_checks outers gs m ds) offset e
decl_caused outers gs hs m n ds d rest offset e s (inl k) = s.caused offset e (inl k)
decl_caused outers gs hs m n ds d rest offset e s (inr c) = s.caused offset e (then_first (decl_checks outers hs n d) (on_made (λ t. module_checks outers t.0 t.1 rest) (declared outers hs n d)) offset e c)

pub decl_next : (outers : List (List Core_entry)) (gs hs is : List Group) (m n p : Module_type) (ds : List Module_decl) (d : Module_decl) (rest : List Module_decl)
    → IsSoFar outers gs hs m n ds (d ∷ rest) → declared outers hs n d ≡ Some (is, p) → IsFree (decl_checks outers hs n d) → All (IsKnown (total is)) (module_entries p) → Grows hs is
    → IsSoFar outers gs is m p ds rest
decl_next outers gs hs is m n p ds d rest s made free known grows =
    let later : on_made (λ t. module_checks outers t.0 t.1 rest) (declared outers hs n d) ≡ module_checks outers is p rest = ap (on_made (λ t. module_checks outers t.0 t.1 rest)) made in
    let after : Checks = on_made (λ t. module_checks outers t.0 t.1 rest) (declared outers hs n d) in
    record {
      made = s.made ∙ ap (and_then (λ t. all_declared outers t.0 t.1 rest)) made;
      free = λ f. s.free (then_free (decl_checks outers hs n d) after free (subst IsFree (sym later) f));
      caused = λ offset e c. s.caused offset e (then_second (decl_checks outers hs n d) after offset e free (subst (λ cs. MemoryOrCausedBy cs offset e) (sym later) c));
      known = known;
      around = all_known_grows hs is outers grows s.around;
      counted = decl_counted outers hs is n p d s.known free made s.counted;
    }

pub decl_none : (outers : List (List Core_entry)) (gs : List Group) (m : Module_type) (ds : List Module_decl) → All (IsKnown (total gs)) (module_entries m) → All (All (IsKnown (total gs))) outers → IsCounted gs m → IsSoFar outers gs gs m m ds ds
decl_none outers gs m ds known around counted = record { made = refl; free = λ f. f; caused = λ offset x c. c; known = known; around = around; counted = counted }

-- ## No declaration

pub empty_known : (gs : List Group) (fs : WasmFeatures) (m : Module_type) → m ≡ empty_module fs → All (IsKnown (total gs)) (module_entries m)
empty_known gs fs m e = subst (λ (n : Module_type). All (IsKnown (total gs)) (module_entries n)) (sym e) (λ k d l. Prim.absurd (omega arith))

pub empty_counted : (gs : List Group) (fs : WasmFeatures) (m : Module_type) → m ≡ empty_module fs → IsCounted gs m
empty_counted gs fs m e = subst (IsCounted gs) (sym e) (record { within = λ k d l. Prim.absurd (omega arith); size = refl })
