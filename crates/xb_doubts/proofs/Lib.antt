mod ToldAttempts
mod HeardLines
mod PartRows
mod ToldLines
