use Rattle.std.proofs.Common.{◌≡◌, ◌++◌, subst, sym}
use Rattle.std.specs.Prelude.{OnOk}
use Rattle.fd_data.specs.declared.read.DataFault.{DataFault}
use Rattle.fd_edge.specs.Lines.{fault_text}
use Rattle.fd_edge.proofs.line.append_fault.Goals as goal

pub returns-in-Field : goal.returns-in-Field
unfolding fault_text
returns-in-Field c = subst (λ (f : DataFault). OnOk c.append_record.result (c.append_record.new.text ≡ c.args.text.now ++ fault_text f))
    (sym c.in-Field.is) c.append_record.ensures

pub returns-in-Number : goal.returns-in-Number
unfolding fault_text
returns-in-Number c =
    subst (λ (f : DataFault). OnOk c.append_record-in-Number.result (c.append_record-in-Number.new.text ≡ c.args.text.now
    ++ fault_text f)) (sym c.in-Number.is) c.append_record-in-Number.ensures

pub returns-in-Range : goal.returns-in-Range
unfolding fault_text
returns-in-Range c =
    subst (λ (f : DataFault). OnOk c.append_record-in-Range.result (c.append_record-in-Range.new.text ≡ c.args.text.now ++ fault_text f))
    (sym c.in-Range.is) c.append_record-in-Range.ensures

pub returns-in-Count : goal.returns-in-Count
unfolding fault_text
returns-in-Count c = subst (λ (f : DataFault). OnOk c.append_counts.result (c.append_counts.new.text ≡ c.args.text.now ++ fault_text f))
    (sym c.in-Count.is) c.append_counts.ensures

pub returns-in-TooLong : goal.returns-in-TooLong
unfolding fault_text
returns-in-TooLong c = subst (λ (f : DataFault). OnOk c.append.result (c.append.new.self ≡ c.args.text.now ++ fault_text f))
    (sym c.in-TooLong.is) c.append.ensures.ok

pub returns-in-Memory : goal.returns-in-Memory
unfolding fault_text
returns-in-Memory c =
    subst (λ (f : DataFault). OnOk c.append-in-Memory.result (c.append-in-Memory.new.self ≡ c.args.text.now ++ fault_text f))
    (sym c.in-Memory.is) c.append-in-Memory.ensures.ok
