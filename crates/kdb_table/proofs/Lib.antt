mod Usages
