use Rattle.std.proofs.Common.{◌≡◌, ◌+◌, ◌*◌, ◌-◌, ◌^◌, ◌≤◌, drop}
use Rattle.net_report.specs.Summary.{keys_of_stores}
use Rattle.net_report.proofs.counted.keys_of_stores.Given as goal

-- what is counted and what is left, and a bound by which the sum fits
abbrev pub invariant-loop-place : goal.invariant-loop-place
invariant-loop-place l = record {
  counted : l.count + keys_of_stores (drop l.place l.journals) (drop l.place l.marks) ≡ keys_of_stores l.journals l.marks;
  few : l.count ≤ l.place * (2 ^ 64 - 1);
}
