-- `PanelFile::button_offsets` meets its contract.
use Rattle.std.proofs.Common.{◌≡◌, ℕ, Option, Result, refl, ap, ◌∙◌, arith, Ok, Some, length-set}
use Rattle.panel_file.specs.declared.Broken.{Broken}
use Rattle.panel_file.specs.declared.Button.{Button}
use Rattle.panel_file.specs.declared.Record.{Record}
use Rattle.panel_file.specs.declared.Record.TheVariants.{Button as ButtonRecord}
use Rattle.panel_file.specs.Panel.{records_of}
use Rattle.panel_file.specs.File.{records}
use Rattle.panel_file.proofs.Walking.{read-within, step-done, step_records, stop_records}
use Rattle.panel_file.proofs.Buttons.{button_within, button_held, touch_passed, all_held}
use Rattle.panel_file.proofs.file.PanelFile.button_offsets.Goals as goal

abbrev Answer : Type 0
Answer = Result (Option (Record × ℕ)) Broken

read : {a : Answer} {x : Option (Record × ℕ)} {r : Record} {next : ℕ} → a ≡ Ok x → x ≡ Some (r, next) → a ≡ Ok (Some (r, next))
read e f = e ∙ ap Ok f

read_button : {a : Answer} {x : Option (Record × ℕ)} {r : Record} {next : ℕ} {b : Button} → a ≡ Ok x → x ≡ Some (r, next) → r ≡ ButtonRecord b → a ≡ Ok (Some (ButtonRecord b, next))
read_button {next} e f g = e ∙ ap Ok f ∙ ap (λ (r : Record). Ok (Some (r, next))) g

pub loop-record-init : goal.loop-record-init
unfolding records records_of
loop-record-init c = (omega arith, omega arith, c.told-offsets, c.args.self.now.good, refl)

pub overflow_cast-offsets : goal.overflow_cast-offsets
overflow_cast-offsets c =
    let w = button_within c.args.self.now c.loop-record.at _ c.record_at.ensures _ _ (read_button c.in-Ok-Some.is c.in-Ok-Some.field-0-is c.in-Button.is) c.loop-record.n c.loop-record.invariant.1 in
    omega (arith, w.1)

pub bounds-offsets-n : goal.bounds-offsets-n
bounds-offsets-n c =
    (button_within c.args.self.now c.loop-record.at _ c.record_at.ensures _ _ (read_button c.in-Ok-Some.is c.in-Ok-Some.field-0-is c.in-Button.is) c.loop-record.n c.loop-record.invariant.1).0

pub loop-record-smaller-in-Button : goal.loop-record-smaller-in-Button
loop-record-smaller-in-Button c =
    let w = read-within c.args.self.now.bytes.now c.loop-record.at _ c.record_at.ensures _ _ (read c.in-Ok-Some.is c.in-Ok-Some.field-0-is) in
    omega (arith, w.further, w.inside)

pub loop-record-smaller : goal.loop-record-smaller
loop-record-smaller c =
    let w = read-within c.args.self.now.bytes.now c.loop-record.at _ c.record_at.ensures _ _ (read c.in-Ok-Some.is c.in-Ok-Some.field-0-is) in
    omega (arith, w.further, w.inside)

pub loop-record-preserved-in-Button : goal.loop-record-preserved-in-Button
loop-record-preserved-in-Button c =
    let f = c.args.self.now in
    let loop = c.loop-record in
    let q = read_button c.in-Ok-Some.is c.in-Ok-Some.field-0-is c.in-Button.is in
    let w = button_within f loop.at _ c.record_at.ensures _ _ q loop.n loop.invariant.1 in
    let good = loop.invariant.3 in (
      w.3,
      w.2,
      simp length-set loop.invariant.2,
      step-done f.bytes.now loop.at _ c.record_at.ensures _ _ q good,
      button_held f loop.at _ c.record_at.ensures _ _ q loop.n loop.offsets (omega (arith, w.0, loop.invariant.2)) (step_records f.bytes.now loop.at _ c.record_at.ensures _ _ q good)
          ∙ loop.invariant.4,
    )

pub loop-record-preserved : goal.loop-record-preserved
loop-record-preserved c =
    let f = c.args.self.now in
    let loop = c.loop-record in
    let q = read c.in-Ok-Some.is c.in-Ok-Some.field-0-is in
    let w = read-within f.bytes.now loop.at _ c.record_at.ensures _ _ q in
    let good = loop.invariant.3 in (
      omega (arith, w.inside, w.short),
      omega (arith, w.further, loop.invariant.1),
      loop.invariant.2,
      step-done f.bytes.now loop.at _ c.record_at.ensures _ _ q good,
      touch_passed f loop.n loop.offsets loop.at c.in-Ok-Some.next c.in-Ok-Some.record c.in_default-record.not-Button (step_records f.bytes.now loop.at _ c.record_at.ensures _ _ q good)
          ∙ loop.invariant.4,
    )

pub returns-in_default-clause-buttons : goal.returns-in_default-clause-buttons
returns-in_default-clause-buttons c =
    let f = c.args.self.now in
    let loop = c.loop-record in
    all_held f loop.n loop.offsets loop.at (stop_records f.bytes.now loop.at _ c.record_at.ensures (λ r next q. cc) loop.invariant.3) ∙ loop.invariant.4

pub returns-in_default-2-clause-buttons : goal.returns-in_default-2-clause-buttons
returns-in_default-2-clause-buttons c =
    let f = c.args.self.now in
    let loop = c.loop-record in
    all_held f loop.n loop.offsets loop.at (stop_records f.bytes.now loop.at _ c.record_at.ensures (λ r next q. cc) loop.invariant.3) ∙ loop.invariant.4
