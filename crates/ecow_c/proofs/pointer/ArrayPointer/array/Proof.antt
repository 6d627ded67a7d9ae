-- `array` lends the value at a pointer that isn't null. Assumes `Logic`.
use mathlib.Core.Path.{refl}
use prog.Wp.{Tables}
use contract.Running.{tables, tables_of}
use denote.Triple.Spec.{triple_of}
use denote.Triple.Table.{entered}
use Rattle.ecow_c.specs.Rows.{array_row}
use Rattle.ecow_c.specs.declared.pointer.ArrayPointer.{ArrayPointer}
use Rattle.ecow_c.specs.contracts.pointer.ArrayPointer as P
use Rattle.ecow_c.specs.contracts.pointer.ArrayPointer.array as F
use Rattle.ecow_c.specs.contracts.pointer.ArrayPointer.array.Key.{name as #self}
use Rattle.ecow_c.proofs.Lent.{Kind, lent_by, here, meets}
use Rattle.ecow_c.proofs.pointer.ArrayPointer.array.Statement.{statement}
use Rattle.ecow_c.proofs.pointer.ArrayPointer.array.Code as code

abbrev kind : Kind
kind = record {
  name = P.the_type.name;
  written = lent_by code.function.locals;
  R = array_row;
  one = tt;
  D = ArrayPointer;
  at = λ d. d.at;
  value = λ d. d.value;
  make = λ p v. record { at = p; value = v };
  eta = λ d. refl;
  at-make = λ p v. refl;
  value-make = λ p v. refl;
  codes = P.the_codes;
}

pub array_spec : {M : Type 1} → statement M
unfolding tables_of
array_spec 𝓤 𝓛 𝓜 𝓡 wired =
    let 𝓣 : Tables 𝓤 𝓛.H = tables_of 𝓤 𝓛.H 𝓜 (tables 𝓤 𝓛.H 𝓜 𝓡 𝓡.env) in
    entered 𝓤 𝓛.H (triple_of 𝓛 F.signature (F.spec 𝓛 𝓜.mem 𝓡.returns)) 𝓣.C 𝓣.Λ #self (here kind) (code.unfolded 𝓤 𝓛.H 𝓜 𝓡 wired)
    (meets kind 𝓛 𝓣)
