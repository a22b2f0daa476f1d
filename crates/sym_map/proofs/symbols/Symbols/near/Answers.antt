use Rattle.std.proofs.Common.{arith, List, [], ℕ, ◌-◌, Some, subst, sym, ap, ◌∙◌}
use Rattle.mach_base.specs.Machine.{Symbol}
use Rattle.sym_map.specs.Limits.{IsSymbolName}
use Rattle.sym_map.proofs.Words.{named_at}
use Rattle.sym_map.proofs.Floors.{floor_of-index, floor_of-no_index, floor_of-below, floor_of-above, found_by_index, near_of-none, near_of-far, near_of-found}
use Rattle.sym_map.proofs.symbols.Symbols.near.Goals as goal

pub returns-in_default-clause-value : goal.returns-in_default-clause-value
returns-in_default-clause-value c =
    rw (← c.self.view_is) (sym (near_of-none c.self.inside.symbols.items c.args.addr (floor_of-no_index c.self.inside.by_addr c.self.inside.symbols.items c.args.addr c.self.invariant.0.addrs c.in_default.ensures.found)))

pub returns-then-offset-ge-OFFSET_LIMIT-clause-value : goal.returns-then-offset-ge-OFFSET_LIMIT-clause-value
returns-then-offset-ge-OFFSET_LIMIT-clause-value c =
    let symbols = c.self.inside.symbols.items in
    let floor = floor_of-index c.self.inside.by_addr symbols c.args.addr c.in-Some.at c.in-Some.number c.self.invariant.0.addrs c.in-Some.ensures.found c.in-Some.ensures.below c.in-Some.ensures.greatest in
    rw (← c.self.view_is) (sym (near_of-far symbols c.args.addr c.in-Some.at floor c.if-offset-ge-OFFSET_LIMIT.true))

pub index-symbol-requires : goal.index-symbol-requires
index-symbol-requires c =
    let found = found_by_index c.self.inside.by_addr c.self.inside.symbols.items c.in-Some.at c.in-Some.number (record { addr = 0; name = [] }) c.self.invariant.0.addrs c.in-Some.ensures.found in
    omega (arith, found.0, c.self.inside.symbols.ok)

pub returns-clause-value : goal.returns-clause-value
returns-clause-value c =
    let symbols = c.self.inside.symbols.items in
    let s = c.index-symbol.result.now in
    let at = c.in-Some.at in
    let floor = floor_of-index c.self.inside.by_addr symbols c.args.addr at c.in-Some.number c.self.invariant.0.addrs c.in-Some.ensures.found c.in-Some.ensures.below c.in-Some.ensures.greatest in
    let found = (found_by_index c.self.inside.by_addr symbols at c.in-Some.number s c.self.invariant.0.addrs c.in-Some.ensures.found).1 ∙ ap (λ (x : Symbol). Some x) (sym c.index-symbol.ensures) in
    let named = c.as_slice.ensures.value ∙ ap (λ (x : Symbol). x.name) c.symbol.view_is in
    rw (← c.self.view_is) (ap (λ (n : List ℕ). Some (n, c.args.addr - at)) named ∙ sym (near_of-found symbols c.args.addr at s floor c.if-offset-ge-OFFSET_LIMIT.false found))

pub returns-in_default-clause-nearest : goal.returns-in_default-clause-nearest
returns-in_default-clause-nearest c =
    let symbols = c.self.inside.symbols.items in
    rw (← c.self.view_is) (floor_of-above symbols c.args.addr 1048576 (floor_of-no_index c.self.inside.by_addr symbols c.args.addr c.self.invariant.0.addrs c.in_default.ensures.found))

pub returns-then-offset-ge-OFFSET_LIMIT-clause-nearest : goal.returns-then-offset-ge-OFFSET_LIMIT-clause-nearest
returns-then-offset-ge-OFFSET_LIMIT-clause-nearest c =
    let symbols = c.self.inside.symbols.items in
    let at = c.in-Some.at in
    let floor = floor_of-index c.self.inside.by_addr symbols c.args.addr at c.in-Some.number c.self.invariant.0.addrs c.in-Some.ensures.found c.in-Some.ensures.below c.in-Some.ensures.greatest in
    rw (← c.self.view_is) (floor_of-below symbols c.args.addr at 1048576 (rw floor (omega arith)) (omega (arith, c.if-offset-ge-OFFSET_LIMIT.true)))

pub returns-clause-nearest : goal.returns-clause-nearest
returns-clause-nearest c =
    let symbols = c.self.inside.symbols.items in
    let at = c.in-Some.at in
    let floor = floor_of-index c.self.inside.by_addr symbols c.args.addr at c.in-Some.number c.self.invariant.0.addrs c.in-Some.ensures.found c.in-Some.ensures.below c.in-Some.ensures.greatest in
    rw (← c.self.view_is) (floor_of-below symbols c.args.addr at (c.args.addr - at) (rw floor (omega arith)) (omega (arith, c.in-Some.ensures.below)))

pub returns-clause-name : goal.returns-clause-name
returns-clause-name c =
    let symbols = c.self.inside.symbols.items in
    let s = c.index-symbol.result.now in
    let within = (found_by_index c.self.inside.by_addr symbols c.in-Some.at c.in-Some.number s c.self.invariant.0.addrs c.in-Some.ensures.found).0 in
    let well = named_at symbols c.in-Some.number s c.self.invariant.1.named within in
    let named = c.as_slice.ensures.value ∙ ap (λ (x : Symbol). x.name) c.symbol.view_is in
    subst (λ (n : List ℕ). IsSymbolName n) (sym named) (subst (λ (x : Symbol). IsSymbolName x.name) (sym c.index-symbol.ensures) well)
