-- What is looked at of a written type, and then of what it comes to.
use Rattle.std.proofs.Common.{◌≡◌, ℕ, ◌++◌, Option, Some, sym, subst, inl, inr}
use Rattle.wcv_core.proofs.Causes.{free_both}
use Rattle.wcv_core.proofs.Closing.{caused_right}
use Rattle.wcv_core.specs.Checks.{Checks, IsFree, CausedBy, MemoryOrCausedBy}
use Rattle.wcv_core.specs.declared.core_types.EntityType.{EntityType}
use Rattle.wcv_core.specs.declared.error.Error.{Error}
use Rattle.wcv_syntax.specs.ModuleTypes.{if_entity}

pub joins_free : (cs : Checks) (f : EntityType → Checks) (o : Option EntityType) (e : EntityType) → o ≡ Some e → IsFree cs → IsFree (f e) → IsFree (cs ++ if_entity f o)
joins_free cs f o e is a b = free_both cs (if_entity f o) a (subst (λ p. IsFree (if_entity f p)) (sym is) b)

pub joins_caused_by : {M : Type 0} (cs : Checks) (f : EntityType → Checks) (o : Option EntityType) (e : EntityType) (offset : ℕ) (err : Error M) → o ≡ Some e → CausedBy (f e) offset err → CausedBy (cs ++ if_entity f o) offset err
joins_caused_by cs f o e offset err is c = caused_right cs (if_entity f o) offset err (subst (λ p. CausedBy (if_entity f p) offset err) (sym is) c)

pub joins_caused : {M : Type 0} (cs : Checks) (f : EntityType → Checks) (o : Option EntityType) (e : EntityType) (offset : ℕ) (err : Error M) → o ≡ Some e → MemoryOrCausedBy (f e) offset err → MemoryOrCausedBy (cs ++ if_entity f o) offset err
joins_caused cs f o e offset err is (inl m) = inl m
joins_caused cs f o e offset err is (inr c) = inr (joins_caused_by cs f o e offset err is c)
