-- Sizes of written types, by which the reading of declared types ends.
use Rattle.std.proofs.Common.{ℕ, zero, suc, ◌+◌, ◌≤◌, ◌<◌, arith}
use Rattle.wcv_syntax.specs.Model.{Type_form, component_type, instance_type, Decl, type_decl, Decls, no_decls, declare}

abbrev mutual
  pub type_size : Type_form → ℕ
  type_size (component_type ds) = suc (suc (suc (decls_size ds)))
  type_size (instance_type ds) = suc (suc (suc (decls_size ds)))
  type_size t = 1

  pub decl_size : Decl → ℕ
  decl_size (type_decl t) = suc (type_size t)
  decl_size d = 1

  pub decls_size : Decls → ℕ
  decls_size no_decls = zero
  decls_size (declare d ds) = decl_size d + decls_size ds

-- of those that are left, the first is no larger than all
pub first_smaller : (d : Decl) (left all : Decls) → decls_size (declare d left) ≤ decls_size all → decl_size d < suc (decls_size all)
first_smaller d left all h = omega (arith, h)

pub rest_smaller : (d : Decl) (left all : Decls) → decls_size (declare d left) ≤ decls_size all → decls_size left ≤ decls_size all
rest_smaller d left all h = omega (arith, h)
