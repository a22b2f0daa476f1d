use Rattle.std.proofs.Common.{◌≡◌, ◌∙◌, ◌≤◌, length, map, true, ap, arith}
use Rattle.std.proofs.lemmas.Result.{err_from_is_err_and}
use Rattle.std.specs.List.{list_all}
use Rattle.mach_base.specs.Machine.{memory_size}
use Rattle.elf_img.specs.Segments.{program_headers, loads, segments, segment_of, is_load}
use Rattle.elf_img.proofs.Loads.{all_kept, segments_bounds, file_bytes_le}
use Rattle.elf_img.proofs.Causes.{IsRightSoFar, HasRightSegments, wrong_header, wrong_programs, wrong_segments, wrong_sizes, wrong_symbols, nothing_wrong}
use Rattle.elf_img.proofs.Prefixes.{segments_parts}
use Rattle.elf_img.proofs.reading.read_elf.Goals as goal

pub returns-in_err-check_header-clause-checked : goal.returns-in_err-check_header-clause-checked
returns-in_err-check_header-clause-checked c =
    let p = err_from_is_err_and c.from_residual.result c.from_residual.ensures.1 in
    rw (p.1, p.2) (wrong_header c.args.file.now c.in_err-check_header.field-0.0 c.in_err-check_header.ensures.passes)

pub returns-in_err-found-clause-checked : goal.returns-in_err-found-clause-checked
returns-in_err-found-clause-checked c =
    let p = err_from_is_err_and c.from_residual-in_err-found.result c.from_residual-in_err-found.ensures.1 in
    rw (p.1, p.2) (wrong_programs c.args.file.now c.in_err-found.field-0.0 c.in_ok-check_header.ensures.passes c.in_err-found.ensures.passes)

pub check_segments-requires : goal.check_segments-requires
check_segments-requires c =
    let same : c.as_slice-loads.result.now ≡ loads c.args.file.now = c.as_slice-loads.ensures.value ∙ c.in_ok-found.ensures.items in
    let kept : list_all is_load c.as_slice-loads.result.now ≡ true = rw same (all_kept is_load (program_headers c.args.file.now)) in
    rw (c.as_slice-segments.ensures.value, c.in_ok-made.ensures) (segments_bounds (length c.args.file.now) c.as_slice-loads.result.now kept (rw c.as_slice-loads.ensures.value c.in_ok-found.ensures.bounds))

pub returns-in_err-check_segments-clause-checked : goal.returns-in_err-check_segments-clause-checked
returns-in_err-check_segments-clause-checked c =
    let same : c.as_slice-loads.result.now ≡ loads c.args.file.now = c.as_slice-loads.ensures.value ∙ c.in_ok-found.ensures.items in
    let made : c.as_slice-segments.result.now ≡ segments c.args.file.now = c.as_slice-segments.ensures.value ∙ (c.in_ok-made.ensures ∙ ap (map segment_of) same) in
    let right : IsRightSoFar c.args.file.now = record { header = c.in_ok-check_header.ensures.passes; programs = c.in_ok-found.ensures.passes } in
    let p = err_from_is_err_and c.from_residual-in_err-check_segments.result c.from_residual-in_err-check_segments.ensures.1 in
    rw (p.1, p.2) (wrong_segments c.args.file.now c.in_err-check_segments.field-0.0 right (rw made at c.in_err-check_segments.ensures.passes))

pub check_sizes-requires : goal.check_sizes-requires
check_sizes-requires c =
    let small = c.in_ok-check_segments.ensures.rules.small in
    let made : c.as_slice-segments.result.now ≡ map segment_of c.as_slice-loads.result.now = c.as_slice-segments.ensures.value ∙ c.in_ok-made.ensures in
    let limit : memory_size (map segment_of c.as_slice-loads.result.now) ≤ 16777216 = rw made at small in
    let fewer = file_bytes_le (length c.args.file.now) c.as_slice-loads.result.now (rw c.as_slice-loads.ensures.value c.in_ok-found.ensures.bounds) in
    omega arith

pub returns-in_err-check_sizes-clause-checked : goal.returns-in_err-check_sizes-clause-checked
returns-in_err-check_sizes-clause-checked c =
    let same : c.as_slice-loads.result.now ≡ loads c.args.file.now = c.as_slice-loads.ensures.value ∙ c.in_ok-found.ensures.items in
    let made : c.as_slice-segments.result.now ≡ segments c.args.file.now = c.as_slice-segments.ensures.value ∙ (c.in_ok-made.ensures ∙ ap (map segment_of) same) in
    let right : IsRightSoFar c.args.file.now = record { header = c.in_ok-check_header.ensures.passes; programs = c.in_ok-found.ensures.passes } in
    let p = err_from_is_err_and c.from_residual-in_err-check_sizes.result c.from_residual-in_err-check_sizes.ensures.1 in
    rw (p.1, p.2) (wrong_sizes c.args.file.now c.in_err-check_sizes.field-0.0 right (rw made at c.in_ok-check_segments.ensures.passes) (rw same at c.in_err-check_sizes.ensures))

pub returns-in_err-map-clause-checked : goal.returns-in_err-map-clause-checked
returns-in_err-map-clause-checked c =
    let same : c.as_slice-loads.result.now ≡ loads c.args.file.now = c.as_slice-loads.ensures.value ∙ c.in_ok-found.ensures.items in
    let made : c.as_slice-segments.result.now ≡ segments c.args.file.now = c.as_slice-segments.ensures.value ∙ (c.in_ok-made.ensures ∙ ap (map segment_of) same) in
    let before : IsRightSoFar c.args.file.now = record { header = c.in_ok-check_header.ensures.passes; programs = c.in_ok-found.ensures.passes } in
    let right : HasRightSegments c.args.file.now = record { before = before; segments = rw made at c.in_ok-check_segments.ensures.passes; sizes = rw same at c.in_ok-check_sizes.ensures } in
    let p = err_from_is_err_and c.from_residual-in_err-map.result c.from_residual-in_err-map.ensures.1 in
    rw (p.1, p.2) (wrong_symbols c.args.file.now c.in_err-map.field-0.0 right c.in_err-map.ensures.passes)

pub returns-clause-checked : goal.returns-clause-checked
returns-clause-checked c =
    let same : c.as_slice-loads.result.now ≡ loads c.args.file.now = c.as_slice-loads.ensures.value ∙ c.in_ok-found.ensures.items in
    let made : c.as_slice-segments.result.now ≡ segments c.args.file.now = c.as_slice-segments.ensures.value ∙ (c.in_ok-made.ensures ∙ ap (map segment_of) same) in
    let before : IsRightSoFar c.args.file.now = record { header = c.in_ok-check_header.ensures.passes; programs = c.in_ok-found.ensures.passes } in
    let right : HasRightSegments c.args.file.now = record { before = before; segments = rw made at c.in_ok-check_segments.ensures.passes; sizes = rw same at c.in_ok-check_sizes.ensures } in
    nothing_wrong c.args.file.now right c.in_ok-map.ensures.passes

pub returns-clause-text : goal.returns-clause-text
returns-clause-text c =
    let made : c.as_slice-segments.result.now ≡ map segment_of c.as_slice-loads.result.now = c.as_slice-segments.ensures.value ∙ c.in_ok-made.ensures in
    rw (c.in_ok-image.ensures, segments_parts c.args.file.now c.as_slice-loads.result.now) (rw made at c.in_ok-check_segments.ensures.text)
