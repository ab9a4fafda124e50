-- What the file of a netlist is found to be.
use Rattle.std.specs.Prelude.{◌≡◌, ℕ, ◌<◌, ◌≤◌, ◌⊎◌, List, length, Option, IsSomeAnd, Result, Ok, Err}
use Rattle.circ_model.specs.Netlist.{Netlist}
use Rattle.aiger_codec.specs.Lines.{fault}
use Rattle.aiger_codec.specs.declared.fault.NetError.{NetError}
use Rattle.aiger_codec.specs.declared.fault.NetError.TheVariants as errors
use Rattle.aiger_codec.specs.declared.fault.NetFault.{NetFault}
use Rattle.aiger_codec.specs.declared.fault.NetKind.TheVariants as kinds
use Rattle.aiger_file.specs.Files.{IsNetlistFile, IsFirstFault}
use Rattle.sec_base.specs.declared.fault.LoadFault.{LoadFault}
use Rattle.sec_base.specs.declared.fault.LoadFault.TheVariants as loads
use Rattle.pair_files.specs.declared.fault.Unread.{Unread}
use Rattle.pair_files.specs.declared.fault.Unread.TheVariants as unread

-- no netlist's file is longer
abbrev pub longest_netlist : ℕ
longest_netlist = 67108864

-- a file that is there, within the limit, and accepted as this netlist
abbrev pub IsAccepted : Option (List ℕ) → Netlist → Type 0
IsAccepted file net = IsSomeAnd file (λ bytes. (length bytes ≤ longest_netlist) × IsNetlistFile bytes net)

-- a file that is there, and is too long or has this first fault
abbrev pub IsRefusedFor : List ℕ → NetFault → Type 0
IsRefusedFor bytes f = ((longest_netlist < length bytes) × (f ≡ fault kinds.Limit longest_netlist)) ⊎ ((length bytes ≤ longest_netlist) × IsFirstFault bytes f)

abbrev pub IsRefused : Option (List ℕ) → NetFault → Type 0
IsRefused file f = IsSomeAnd file (λ bytes. IsRefusedFor bytes f)

-- why there is no netlist of a file that wasn't loaded
abbrev pub unread_by : LoadFault → Unread
unread_by loads.Failed = unread.Failed
unread_by loads.TooLong = unread.Refused (fault kinds.Limit longest_netlist)
unread_by loads.Memory = unread.Memory

-- and of one that wasn't accepted
abbrev pub unread_of : NetError → Unread
unread_of (errors.Refused f) = unread.Refused f
unread_of errors.Memory = unread.Memory

-- what a netlist's file was found to be, where it was told
abbrev pub IsRead : Option (List ℕ) → Result Netlist Unread → Type 0
IsRead file (Ok net) = IsAccepted file net
IsRead file (Err (unread.Refused f)) = IsRefused file f
IsRead file (Err unread.Failed) = Unit {0}
IsRead file (Err unread.Memory) = Unit {0}
