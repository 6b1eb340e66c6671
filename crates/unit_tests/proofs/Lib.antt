mod CommitVectors
mod SampleEdits
mod SampleRows
mod TowerVectors
mod TreeVectors
mod TupleVectors
mod WalkVectors
mod WireVectors
