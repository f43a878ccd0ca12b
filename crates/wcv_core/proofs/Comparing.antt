-- What is compared by its code is equal.
use Rattle.std.proofs.Common.{◌≡◌, [], ◌∷◌, ◌++◌, ◌+◌, ◌*◌, false, ap, arith}
use Rattle.std.specs.Bool.{Decides}
use Rattle.std.proofs.lemmas.Bool.Decides.{Decides-eqb}
use Rattle.std.proofs.lemmas.Slice.Eq.{bytes_eq-Decides}
use Rattle.wcv_core.specs.CoreCode.{abstract_number, storage_kind, storage_rest, field_code, code_of}
use Rattle.wcv_core.specs.CoreForm.{Group}
use Rattle.wcv_core.specs.CoreGroups.{same_group}
use Rattle.wcv_core.specs.CoreMatching.{same_name}
use Rattle.wcv_core.specs.CoreRules.{same_storage}
use Rattle.wcv_core.specs.declared.core_types.AbstractHeap.{AbstractHeap}
use Rattle.wcv_core.specs.declared.core_types.FieldType.{FieldType}
use Rattle.wcv_core.specs.declared.core_types.StorageType.{StorageType}
use Rattle.wcv_core.proofs.Reading.{number_told, field_read, code_of-same}

pub names_told : (a b : AbstractHeap) → Decides (same_name a b) (a ≡ b)
names_told a b =
    let d = Decides-eqb (abstract_number a) (abstract_number b) in
    (λ e. number_told a b (d.0 e), λ e. d.1 (ap abstract_number e))

stored_told : (a b : StorageType) → storage_kind a ≡ storage_kind b → storage_rest a ≡ storage_rest b → a ≡ b
stored_told a b k r =
    let x : FieldType = record { storage = a; mutable = false } in
    let y : FieldType = record { storage = b; mutable = false } in
    let c : field_code x ++ [] ≡ field_code y ++ [] = λ j. (0 + 2 * k j) ∷ (r j ++ []) in
    ap (λ (f : FieldType). f.storage) (field_read x y [] [] c).0

pub storages_told : (a b : StorageType) → Decides (same_storage a b) (a ≡ b)
storages_told a b = grind (arith, Decides-eqb (storage_kind a) (storage_kind b), bytes_eq-Decides (storage_rest a) (storage_rest b), stored_told a b)

pub groups_told : (g h : Group) → Decides (same_group g h) (g ≡ h)
groups_told g h =
    let d = bytes_eq-Decides (code_of g) (code_of h) in
    (λ e. code_of-same g h (d.0 e), λ e. d.1 (ap code_of e))
