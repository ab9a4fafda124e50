-- The texts that only single commands write.
use Rattle.std.specs.Prelude.{ℕ, List, ◌++◌, codes, decimal}
use Rattle.run_texts.specs.Texts.{line_fault_text}
use Rattle.corr_certificate.specs.declared.fault.CertFault.{CertFault}
use Rattle.corr_certificate.specs.declared.fault.CertKind.{CertKind}
use Rattle.corr_certificate.specs.declared.fault.CertKind.TheVariants as cert_kinds
use Rattle.trace_witness.specs.declared.fault.TraceFault.{TraceFault}
use Rattle.trace_witness.specs.Names.{name_of as name_of_trace_kind}
use Rattle.sec_cli.specs.declared.counting.Stats.{Stats}

-- the numbers of a journal's entries, in two halves
abbrev pub stats_head : Stats → List ℕ
stats_head s = codes "stats offers=" ++ (decimal s.offers ++ (codes " counted=" ++ (decimal s.counted ++ (codes " stale=" ++ decimal s.stale))))

abbrev pub stats_line : Stats → List ℕ
stats_line s = stats_head s ++ (codes " splits=" ++ (decimal s.splits ++ (codes " already=" ++ (decimal s.already ++ (codes " back=" ++ (decimal s.back ++ codes "\n"))))))

abbrev pub verified_line : List ℕ
verified_line = codes "verified\n"

abbrev pub trace_fault_text : List ℕ → TraceFault → List ℕ
trace_fault_text name fault = line_fault_text name (name_of_trace_kind fault.kind) fault.line

-- the names of the kinds of faults of certificates
abbrev pub name_of_cert_kind : CertKind → List ℕ
name_of_cert_kind cert_kinds.Line = codes "line"
name_of_cert_kind cert_kinds.Truncated = codes "truncated"
name_of_cert_kind cert_kinds.Limit = codes "limit"
name_of_cert_kind cert_kinds.Signals = codes "signals"
name_of_cert_kind cert_kinds.Class = codes "class"
name_of_cert_kind cert_kinds.Outputs = codes "outputs"
name_of_cert_kind cert_kinds.Order = codes "order"
name_of_cert_kind cert_kinds.Derivation = codes "derivation"
name_of_cert_kind cert_kinds.Tie = codes "tie"

abbrev pub cert_fault_text : List ℕ → CertFault → List ℕ
cert_fault_text name fault = line_fault_text name (name_of_cert_kind fault.kind) fault.line

abbrev pub usage_text : List ℕ
usage_text = codes "usage: sec check LEFT RIGHT [-k K] [-d D] [-j J] [--classes] [--stats] [--trace FILE] [--cert FILE] [--tie] [--least]\n       sec replay LEFT RIGHT TRACE [--tie]\n       sec verify LEFT RIGHT CERT [--tie]\n       sec demo N [-k K] [-j J]\n       sec climb LEFT RIGHT [-m M] [-j J] [--least]\n       sec reduce NET OUT [-k K] [-j J] [--binary]\n       sec batch LIST [-k K] [-j J]\n"
