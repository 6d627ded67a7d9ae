use Rattle.std.proofs.Common.{◌≡◌, map}
use Rattle.ecow_uses.specs.Scopes.{meaning}
use Rattle.ecow_uses.proofs.symbols.Scope.lookup.Given as goal

abbrev pub invariant-loop-binding : goal.invariant-loop-binding
invariant-loop-binding l = l.value ≡ meaning (map (λ binding. binding.now) l.yielded) l.name
